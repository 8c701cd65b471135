use Rattle.std.proofs.Common.{◌≡◌, ◌≤◌, ◌∙◌, sym, ap, map, subst, List, ℤ, unsigned_abs}
use Rattle.geo_triple.specs.declared.limits.TheConstants.{STATEMENT_LIMIT}
use Rattle.geo_degree.specs.declared.grids.Axis.{Axis}
use Rattle.geo_degree.specs.Grids.{values_on}
use Rattle.geo_degree.specs.Questions.{sample}
use Rattle.geo_sketch.specs.Samples.{sample_value}
use Rattle.geo_settle.proofs.AxisValues.{sample_low}
use Rattle.geo_settle.proofs.samples.fails_at.Goals as goal

pub refresh-requires-clause-low : goal.refresh-requires-clause-low
refresh-requires-clause-low g c =
    let q = g.F.Form.question c.args.form.now in
    let written : c.write_sample.new.values ≡ sample q c.args.position = c.write_sample.ensures ∙ ap (λ (axes : List Axis). values_on axes (sample_value c.args.position)) c.axes.ensures in
    subst (λ (xs : List ℤ). q.height_at (map unsigned_abs xs) ≤ STATEMENT_LIMIT) (sym written) (sample_low q c.args.position (g.met.F.Form.is_form c.args.form.now))
