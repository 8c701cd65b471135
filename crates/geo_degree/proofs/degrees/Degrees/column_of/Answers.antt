use Rattle.std.proofs.Common.{subst, List}
use Rattle.geo_sketch.specs.declared.elements.Element.{Element}
use Rattle.geo_degree.specs.Rows.{IsTabulated}
use Rattle.geo_degree.proofs.RowLaws.{parameter_found}
use Rattle.geo_degree.proofs.degrees.Degrees.column_of.Goals as goal

pub returns : goal.returns
returns c =
    let ps = c.self.inside.parameters.items in
    let rows = c.self.inside.rows.items in
    let tabulated = subst (λ (es : List Element). IsTabulated es c.self.inside.parameters.items c.self.inside.rows.items) c.self.view_is c.self.invariant in
    parameter_found c.args.self.now ps rows tabulated c.args.p c.place_among.result (rw (c.deref.ensures.value, c.from.ensures) at c.place_among.ensures)
