use Rattle.std.proofs.Common.{◌∙◌, sym, ap, arith}
use Rattle.geo_parse.proofs.PrintLemmas.{put_digit, put_last}
use Rattle.geo_parse.proofs.printing.+put_natural.Goals as goal
use Rattle.geo_parse.proofs.printing.+put_natural.Goals.{then-n-ge10+in_ok-put_natural, else-n-ge10}

pub returns-clause-written : goal.returns-clause-written
returns-clause-written t c = elim c.if-n-ge10.branch [
  | then-n-ge10+in_ok-put_natural w ↦
      put_digit _ _ _ c.args.n (omega arith) c.ranges.n.fits (ap (λ v. v.items) w.out-is ∙ w.in_ok-put_natural.ensures.written) c.in_ok-push.ensures.items
  | else-n-ge10 w ↦ put_last _ _ c.args.n (omega arith) (rw (sym w.out-is) c.in_ok-push.ensures.items)
]
