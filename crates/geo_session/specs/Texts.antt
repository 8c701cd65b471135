-- The texts of what is acknowledged or refused.
use Rattle.std.specs.Prelude.{ℕ, ◌++◌, List, codes}
use Rattle.std.specs.Fmt.{decimal}
use Rattle.geo_sketch.specs.declared.changes.Refusal.{Refusal}
use Rattle.geo_sketch.specs.declared.changes.Refusal.TheVariants as refusal

abbrev pub ok_line : List ℕ
ok_line = codes "ok\n"

abbrev pub refusal_word : Refusal → List ℕ
refusal_word refusal.Long = codes "long"
refusal_word refusal.Ascii = codes "ascii"
refusal_word refusal.Command = codes "command"
refusal_word refusal.Arity = codes "arity"
refusal_word refusal.Name = codes "name"
refusal_word refusal.Number = codes "number"
refusal_word refusal.Taken = codes "taken"
refusal_word refusal.Unknown = codes "unknown"
refusal_word refusal.Kind = codes "kind"
refusal_word refusal.Zero = codes "zero"
refusal_word refusal.Full = codes "full"
refusal_word refusal.Tall = codes "tall"
refusal_word refusal.Used = codes "used"
refusal_word refusal.Fixed = codes "fixed"
refusal_word refusal.Nothing = codes "nothing"
refusal_word refusal.Repeat = codes "repeat"
refusal_word refusal.View = codes "view"
refusal_word refusal.Shape = codes "shape"
refusal_word refusal.Great = codes "great"
refusal_word refusal.Unproved = codes "unproved"
refusal_word refusal.Degenerate = codes "degenerate"

abbrev pub refusal_line : ℕ → Refusal → List ℕ
refusal_line number r = codes "refused " ++ (decimal number ++ (codes " " ++ (refusal_word r ++ codes "\n")))
