use Rattle.std.proofs.Common.{le_trans, rules}
use Rattle.std.specs.Int.{w64, w128}
use Rattle.std.proofs.lemmas.Int.{to_z-of_z}
use Rattle.geo_triple.specs.Sums.{sizes_of}
use Rattle.geo_triple.proofs.Sums.{a-largest, b-largest, c-largest}
use Rattle.geo_triple.proofs.Readings.{in_64}
use Rattle.geo_triple.proofs.narrow.shortened.Goals as goal

pub overflow_cast-result : goal.overflow_cast-result
overflow_cast-result c =
    let t = c.args.t.now in
    simp (to_z-of_z w128 t.a (search rules)) (in_64 t.a (le_trans (a-largest (sizes_of t)) c.requires))

pub overflow_cast-result-2 : goal.overflow_cast-result-2
overflow_cast-result-2 c =
    let t = c.args.t.now in
    simp (to_z-of_z w128 t.b (search rules)) (in_64 t.b (le_trans (b-largest (sizes_of t)) c.requires))

pub overflow_cast-result-3 : goal.overflow_cast-result-3
overflow_cast-result-3 c =
    let t = c.args.t.now in
    simp (to_z-of_z w128 t.c (search rules)) (in_64 t.c (le_trans (c-largest (sizes_of t)) c.requires))

pub returns : goal.returns
returns c =
    let t = c.args.t.now in
    simp (
      to_z-of_z w128 t.a (search rules),
      to_z-of_z w128 t.b (search rules),
      to_z-of_z w128 t.c (search rules),
      to_z-of_z w64 t.a (in_64 t.a (le_trans (a-largest (sizes_of t)) c.requires)),
      to_z-of_z w64 t.b (in_64 t.b (le_trans (b-largest (sizes_of t)) c.requires)),
      to_z-of_z w64 t.c (in_64 t.c (le_trans (c-largest (sizes_of t)) c.requires)),
    )
