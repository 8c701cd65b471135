-- What an entry of a grid stands for.
use Rattle.geo_cert.specs.Grids.{Grid, one, two}
use Rattle.geo_check.specs.declared.entries.Entry.{Entry}
use Rattle.geo_check.specs.declared.entries.Entry.TheVariants.{One, Pair}

abbrev pub entry_shown : Entry → Grid
entry_shown (One p xs) = one p xs.now
entry_shown (Pair p q xs ys) = two p q xs.now ys.now
