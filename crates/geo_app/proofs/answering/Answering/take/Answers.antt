use Rattle.geo_app.proofs.ScriptCourses.{script_taken}
use Rattle.geo_app.proofs.answering.Answering.take.Goals as goal

pub returns-in-Script-clause-replied : goal.returns-in-Script-clause-replied
returns-in-Script-clause-replied g c =
    rw c.in-Script.is (script_taken g.W.Views.shows c.in-Script.script c.take.new.self c.args.line.now c.args.out.now.items c.take.new.out.items c.take.result c.take.ensures.carried_out c.take.ensures.tools)
