-- What a script makes of the lines to come.
use Rattle.std.specs.Prelude.{◌≡◌, Option, List}
use Rattle.geo_view.specs.Sights.{Sight}
use Rattle.geo_session.specs.Printed.{text_of}
use Rattle.geo_script.specs.declared.script.Script.{Script}
use Rattle.geo_script.specs.Places.{Place, StandsAt, printed_at, refuses_at}
use Rattle.geo_app.specs.Courses.{Course}

-- from a place on
abbrev pub script_course : Place → Course
script_course place = record {
  text = λ lines. text_of (printed_at place lines);
  meanwhile = λ lines. text_of (printed_at place lines);
  refuses = λ lines. refuses_at place lines;
}

-- the script stands at a place, from which it goes on so. What is seen of its views is
-- handed in
abbrev pub ScriptGoes : {W : Type 0} → (W → List (Option Sight)) → Script W → Course → Type 0
ScriptGoes shows script course = (place : Place) × StandsAt shows script place × (course ≡ script_course place)
