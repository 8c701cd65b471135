use Rattle.std.proofs.Common.{◌∙◌, sym, ap, List, length}
use Rattle.geo_degree.specs.declared.grids.Block.{Block}
use Rattle.geo_degree.specs.Blocks.{block_degrees}
use Rattle.geo_degree.proofs.QuestionLaws.{axis_count}
use Rattle.geo_settle.proofs.values.values_at.Goals as goal

pub point-requires-clause-room : goal.point-requires-clause-room
point-requires-clause-room g c =
    let form = c.args.form.now in
    ap length c.deref_mut.ensures.value ∙ c.in_ok-values.ensures ∙ sym (axis_count (g.F.Form.question form) (g.met.F.Form.is_form form)) ∙ sym (ap (λ (bs : List Block). length (block_degrees bs)) c.requires.grid)
