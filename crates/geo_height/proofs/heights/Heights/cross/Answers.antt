use Rattle.geo_triple.specs.Sums.{cross_sums}
use Rattle.geo_height.specs.Capped.{sizes_in}
use Rattle.geo_height.proofs.heights.Heights.cross.Goals as goal

pub returns : goal.returns
unfolding cross_sums
returns c = c.all_of.ensures (cross_sums (sizes_in c.args.self.now) (sizes_in c.args.other.now)) c.sum_of_two.ensures c.sum_of_two-2.ensures c.sum_of_two-3.ensures
