-- What is made of lines, each of which may be a certificate.
use Rattle.geo_checker.specs.Answers.{answered, has_invalid, text_of}
use Rattle.geo_app.specs.Courses.{Course}

abbrev pub check_course : Course
check_course = record {
  text = λ lines. text_of (answered lines);
  meanwhile = λ lines. text_of (answered lines);
  refuses = λ lines. has_invalid (answered lines);
}
