use Rattle.geo_checker.proofs.AnswerLaws.{checked_error, checked_right}
use Rattle.geo_checker.proofs.answering.check_line.Goals as goal

pub returns-in-Ok : goal.returns-in-Ok
returns-in-Ok c = checked_right c.args.line.now c.in-Ok.certificate c.check.result c.in-Ok.ensures c.check.ensures.answer

pub returns-in-Err : goal.returns-in-Err
returns-in-Err c = checked_error c.args.line.now c.in-Err.stop c.in-Err.ensures
