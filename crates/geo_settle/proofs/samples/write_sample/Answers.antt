use Rattle.std.proofs.Common.{arith}
use Rattle.geo_sketch.specs.Samples.{sample_value}
use Rattle.geo_settle.proofs.AxisValues.{values_by_place}
use Rattle.geo_settle.proofs.samples.write_sample.Goals as goal

pub returns : goal.returns
returns c = values_by_place c.args.axes.now (sample_value c.args.position) c.loop-k.values c.loop-k.invariant.0 (λ k l. c.loop-k.invariant.1 k (omega arith))
