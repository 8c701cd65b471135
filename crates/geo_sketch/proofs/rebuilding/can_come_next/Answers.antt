use Rattle.std.proofs.Common.{◌≡◌, ◌<◌, true, rules}
use Rattle.geo_sketch.specs.Followers.{can_be_defined}
use Rattle.geo_sketch.specs.Lookups.{IsLive}
use Rattle.geo_sketch.proofs.ConstructionLaws.{at_named}
use Rattle.geo_sketch.proofs.PlainHeightLaws.{all_low}
use Rattle.geo_sketch.proofs.SketchLaws.{named}
use Rattle.geo_sketch.proofs.RebuildLaws.{decides_defined, sound_construction}
use Rattle.geo_sketch.proofs.rebuilding.can_come_next.Goals as goal

pub plain_height_of_new-requires-clause-construction : goal.plain_height_of_new-requires-clause-construction
plain_height_of_new-requires-clause-construction c = sound_construction c.args.elements.now c.requires

pub plain_height_of_new-requires-clause-low : goal.plain_height_of_new-requires-clause-low
plain_height_of_new-requires-clause-low c = all_low c.args.elements.now (sound_construction c.args.elements.now c.requires) c.requires.low

pub plain_height_of_new-requires-clause-live : goal.plain_height_of_new-requires-clause-live
plain_height_of_new-requires-clause-live c =
    let es = c.args.elements.now in
    let defined : can_be_defined es c.args.number c.args.kind c.args.def.now ≡ true = search rules in
    at_named (λ k. (k < c.args.number) × IsLive es k) (IsLive es) c.args.def.now (λ k p. p.1) (named es c.args.number c.args.kind c.args.def.now ((decides_defined es c.args.number c.args.kind c.args.def.now).0 defined))
