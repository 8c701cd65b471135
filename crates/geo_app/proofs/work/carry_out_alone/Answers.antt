use Rattle.std.proofs.Common.{refl, []}
use Rattle.geo_app.proofs.work.carry_out_alone.Goals as goal

pub take_all-requires-after_bounds : goal.take_all-requires-after_bounds
take_all-requires-after_bounds g c κs under = c.new-script.ensures [] refl
