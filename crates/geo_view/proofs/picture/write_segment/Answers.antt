use Rattle.std.proofs.Common.{rules, ◌≡◌, subst, ℕ, ◌++◌, List}
use Rattle.std.specs.Prelude.{OnOk, codes}
use Rattle.geo_view.specs.Pictures.{end_text, name_text, stroke_text}
use Rattle.geo_view.proofs.PictureLaws.{five_pieces}
use Rattle.geo_view.proofs.picture.write_segment.Goals as goal

pub returns : goal.returns
returns c =
    let one : c.extend_from_slice.new.self.items ≡ c.args.out.now.items ++ codes "<line" = search rules in
    let two : c.write_name.new.out.items ≡ c.extend_from_slice.new.self.items ++ name_text c.args.name.now = search rules in
    let three : c.write_end.new.out.items ≡ c.write_name.new.out.items ++ end_text (codes "x1") c.args.x1 (codes "y1") c.args.y1 = search rules in
    let four : c.write_end-2.new.out.items ≡ c.write_end.new.out.items ++ end_text (codes "x2") c.args.x2 (codes "y2") c.args.y2 = search rules in
    subst (λ (text : List ℕ). OnOk c.write_stroke.result (c.write_stroke.new.out.items ≡ text)) (five_pieces _ _ _ _ _ stroke_text one two three four) c.write_stroke.ensures
