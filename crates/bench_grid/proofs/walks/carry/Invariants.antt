use Rattle.std.proofs.Common.{◌≡◌, ◌≤◌, All, length, unsigned_abs}
use Rattle.geo_grid.specs.Values.{AgreeBefore}
use Rattle.bench_grid.proofs.walks.carry.Given as goal

abbrev pub invariant-loop-place : goal.invariant-loop-place
invariant-loop-place l =
    record {
      digits : length l.digits ≡ length l.initial.digits;
      count : length l.values ≡ length l.initial.values;
      small : All (λ x. unsigned_abs x ≤ 3) l.values;
      before : AgreeBefore l.place l.initial.values l.values;
    }
