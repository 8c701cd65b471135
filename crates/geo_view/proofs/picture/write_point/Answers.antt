use Rattle.std.proofs.Common.{rules, ◌≡◌, ◌≢◌, ◌++◌, sym, subst, ℕ, List, pos}
use Rattle.std.specs.Prelude.{OnOk}
use Rattle.geo_view.specs.Pictures.{across, circle_text, upwards}
use Rattle.geo_view.proofs.PictureLaws.{point_drawn}
use Rattle.geo_view.proofs.picture.write_point.Goals as goal

pub returns : goal.returns
returns c =
    let crosses : c.args.c ≢ pos 0 = search rules in
    let written : OnOk c.write_circle.result (c.write_circle.new.out.items ≡ c.args.out.now.items ++ circle_text c.args.name.now (across c.args.a c.args.c) (upwards c.args.b c.args.c)) = search rules in
    subst (λ (text : List ℕ). OnOk c.write_circle.result (c.write_circle.new.out.items ≡ c.args.out.now.items ++ text)) (sym (point_drawn c.args.name.now c.args.a c.args.b c.args.c crosses)) written
