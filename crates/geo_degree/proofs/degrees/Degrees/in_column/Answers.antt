use Rattle.std.proofs.Common.{◌∙◌, ap, subst, List, get_or, arith}
use Rattle.geo_sketch.specs.declared.elements.Element.{Element}
use Rattle.geo_sketch.specs.Tables.{place}
use Rattle.geo_degree.specs.Grids.{parameters_of}
use Rattle.geo_degree.specs.Rows.{column, IsTabulated}
use Rattle.geo_degree.proofs.RowLaws.{degree_tabulated}
use Rattle.geo_degree.proofs.degrees.Degrees.in_column.Goals as goal

pub returns-clause-degree : goal.returns-clause-degree
returns-clause-degree c =
    let ps = c.self.inside.parameters.items in
    let rows = c.self.inside.rows.items in
    let k = c.args.column in
    let tabulated = subst (λ (es : List Element). IsTabulated es c.self.inside.parameters.items c.self.inside.rows.items) c.self.view_is c.self.invariant in
    c.from.ensures
    ∙ (rw (c.deref.ensures.value, c.deref-2.ensures.value) at c.row_at.ensures) k
    ∙ ap (λ (es : List Element). get_or (column rows k) (place es c.args.n) 0) c.self.view_is
    ∙ degree_tabulated c.args.self.now ps rows tabulated c.args.n k c.requires.live c.requires.within

pub returns-clause-low : goal.returns-clause-low
returns-clause-low c =
    let tabulated = subst (λ (es : List Element). IsTabulated es c.self.inside.parameters.items c.self.inside.rows.items) c.self.view_is c.self.invariant in
    omega (arith, returns-clause-degree c, tabulated.low c.args.n (get_or (parameters_of c.args.self.now) c.args.column 0))
