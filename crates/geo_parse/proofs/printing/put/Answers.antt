use Rattle.geo_parse.proofs.PrintLemmas.{put_whole}
use Rattle.geo_parse.proofs.printing.put.Goals as goal

pub returns-clause-written : goal.returns-clause-written
returns-clause-written c =
    put_whole _ _ _ _ _ _ _ c.in_ok-extend_from_slice.ensures.items c.in_ok-put_names.ensures.written c.in_ok-put_numbers.ensures.written
