use Rattle.std.proofs.Common.{refl, []}
use Rattle.geo_app.proofs.generated.count_answers.Goals as goal

pub count_all-requires-after_bounds : goal.count_all-requires-after_bounds
count_all-requires-after_bounds g c κs under = c.new-session.ensures [] refl
