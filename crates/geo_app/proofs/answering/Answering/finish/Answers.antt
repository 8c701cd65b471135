use Rattle.std.proofs.Common.{◌≡◌, ◌⊎◌, inl, inr, subst, ℕ, false, Option, List}
use Rattle.geo_view.specs.Sights.{Sight}
use Rattle.geo_script.specs.declared.script.Script.{Script as OneScript}
use Rattle.geo_app.specs.Answering.{Goes}
use Rattle.geo_app.specs.Courses.{Course, IsLastReply}
use Rattle.geo_app.specs.declared.answering.Answering.{Answering}
use Rattle.geo_app.specs.declared.answering.Answering.TheVariants.{Script, Certificates}
use Rattle.geo_app.proofs.ScriptCourses.{over as script_over}
use Rattle.geo_app.proofs.CertificateCourses.{over as certificates_over}
use Rattle.geo_app.proofs.answering.Answering.finish.Goals as goal

-- at the end of a script, and of certificates, nothing more is written
nothing_last : {W : Type 0} (shows : W → List (Option Sight)) (answering : Answering W) (held : List ℕ) → ((script : OneScript W) × (answering ≡ Script script)) ⊎ (answering ≡ Certificates) → (course : Course) → Goes shows answering course → IsLastReply course false held held
nothing_last shows answering held (inl (script, is)) course goes = script_over shows script held course (subst (λ (a : Answering _). Goes shows a course) is goes)
nothing_last shows answering held (inr is) course goes = certificates_over held course (subst (λ (a : Answering _). Goes shows a course) is goes)

pub returns-in-Script : goal.returns-in-Script
returns-in-Script g c = nothing_last g.W.Views.shows c.args.self.now c.args.out.now.items c.in-Script.is
