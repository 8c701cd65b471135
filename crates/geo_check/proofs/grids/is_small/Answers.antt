use Rattle.std.proofs.Common.{◌≡◌, ◌*◌, ◌<◌, ◌≤◌, ◌+◌, sym, subst, drop, ℕ, arith}
use Rattle.geo_check.specs.Entries.{entry_shown}
use Rattle.geo_check.specs.Grids.{size_of}
use Rattle.geo_check.proofs.SizeLaws.{grown, grown_some, too_large, too_many}
use Rattle.geo_check.proofs.ValueLaws.{never_gone}
use Rattle.geo_check.proofs.grids.is_small.Goals as goal
use Rattle.geo_degree.specs.declared.limits.TheConstants.{SIZE_LIMIT}

pub returns-in_default : goal.returns-in_default
returns-in_default c = never_gone c.args.grid.now c.loop-k.k (omega (arith, c.loop-k-test.true, c.len-k-end.ensures)) c.in_default.ensures.entry

pub returns-in_default-count_points : goal.returns-in_default-count_points
returns-in_default-count_points c =
    let inv = c.loop-k.invariant in
    sym (too_large c.args.grid.now c.requires c.loop-k.size c.loop-k.k (entry_shown c.in-Some.entry) inv.some inv.all c.in-Some.ensures.entry c.in_default-count_points.ensures)

pub returns-then-size-gt-SIZE_LIMIT : goal.returns-then-size-gt-SIZE_LIMIT
returns-then-size-gt-SIZE_LIMIT c =
    let inv = c.loop-k.invariant in
    let g = entry_shown c.in-Some.entry in
    sym (too_many c.args.grid.now c.requires c.loop-k.size c.loop-k.k g inv.some inv.all c.in-Some.ensures.entry (subst (λ (n : ℕ). SIZE_LIMIT < c.loop-k.size * n) c.in-Some-count_points.ensures.0 c.if-size-gt-SIZE_LIMIT.true))

pub loop-k-preserved : goal.loop-k-preserved
loop-k-preserved c =
    let inv = c.loop-k.invariant in
    let g = entry_shown c.in-Some.entry in
    let same = sym c.in-Some-count_points.ensures.0 in
    record {
      some = subst (λ (n : ℕ). 1 ≤ c.loop-k.size * n) same (grown_some c.args.grid.now c.requires c.loop-k.size c.loop-k.k g inv.some inv.all c.in-Some.ensures.entry);
      low = c.if-size-gt-SIZE_LIMIT.false;
      all = subst (λ (n : ℕ). c.loop-k.size * n * size_of (drop (c.loop-k.k + 1) c.args.grid.now) ≡ size_of c.args.grid.now) same (grown c.args.grid.now c.requires c.loop-k.size c.loop-k.k g inv.some inv.all c.in-Some.ensures.entry);
    }
