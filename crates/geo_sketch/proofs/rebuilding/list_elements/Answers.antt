use Rattle.std.proofs.Common.{◌∙◌, ◌++◌, ◌∷◌, [], sym, subst, List, get_or}
use Rattle.geo_sketch.specs.declared.elements.Kind.TheVariants.{Point}
use Rattle.geo_sketch.specs.declared.elements.Def.TheVariants.{Free}
use Rattle.geo_sketch.specs.declared.elements.Element.{Element}
use Rattle.geo_sketch.specs.Rebuilding.{listed, AreSound}
use Rattle.geo_sketch.proofs.RebuildLaws.{front_listed}
use Rattle.geo_sketch.proofs.rebuilding.list_elements.Goals as goal

pub returns-in-None : goal.returns-in-None
returns-in-None c sound =
    let list = c.args.list.now in
    let i = c.loop-entry.entry-index in
    let known = c.deref.ensures.value ∙ c.loop-entry.invariant.elements in
    c.in-None.ensures (subst (λ (es : List Element). AreSound (es ++ listed (get_or list i (0, Point, Free)) ∷ [])) (sym known) (front_listed list i (0, Point, Free) c.loop-entry-test.true sound))
