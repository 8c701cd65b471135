use Rattle.std.proofs.Common.{◌≡◌, ◌≤◌, ◌⊎◌, ℤ, List, All, length, unsigned_abs}
use Rattle.geo_grid.specs.Values.{AgreeBefore}
use Rattle.bench_grid.proofs.walks.over_triangles.Given as goal

abbrev pub invariant-loop : goal.invariant-loop
invariant-loop g l =
    record {
      digits : length l.digits.items ≡ length (g.F.Form.question l.form).axes;
      count : length l.values.items ≡ length (g.F.Form.question l.form).axes;
      small : All (λ x. unsigned_abs x ≤ 3) l.values.items;
      work : g.F.Form.is_fresh l.form l.work ⊎ ((xs : List ℤ) × g.F.Form.stands_for l.form l.work xs × AgreeBefore l.first xs l.values.items);
    }
