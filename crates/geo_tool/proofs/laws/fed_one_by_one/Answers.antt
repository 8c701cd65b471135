use Rattle.std.proofs.Common.{[], ◌∷◌}
use Rattle.geo_tool.specs.Expansion.{empty_bench}
use Rattle.geo_tool.proofs.ExpansionLaws.{bench_both, expansion_both, expansion_last}
use Rattle.geo_tool.proofs.laws.fed_one_by_one.Goals as goal

pub returns-clause-after : goal.returns-clause-after
returns-clause-after c = λ lines line. bench_both empty_bench lines (line ∷ [])

pub returns-clause-given : goal.returns-clause-given
returns-clause-given c = expansion_last

pub returns-clause-cut : goal.returns-clause-cut
returns-clause-cut c = expansion_both empty_bench
