-- Bytes that are kept where others are appended.
use Rattle.std.proofs.Common.{◌≡◌, ℕ, ◌++◌, ◌≤◌, List, length, take, sym, ap, subst, ◌∙◌, arith}
use Rattle.std.proofs.lemmas.List.{take_all, take-take, take-append-le, length-take}
use Rattle.geo_parse.specs.Writers.{Extends}

extends_long : (old new : List ℕ) → Extends old new → length old ≤ length new
extends_long old new h = omega (arith, length-take (length old) new, ap length h)

-- what extends an extension extends
pub extends_through : (old mid new : List ℕ) → Extends old mid → Extends mid new → Extends old new
extends_through old mid new h k = sym (take-take (length old) (length mid) new (extends_long old mid h)) ∙ ap (take (length old)) k ∙ h

-- what is appended to an extension extends
pub extends_more : (old mid more : List ℕ) → Extends old mid → Extends old (mid ++ more)
extends_more old mid more h = take-append-le (length old) mid more (extends_long old mid h) ∙ h

-- what extends bytes after a head was appended
pub extends_behind : (old head mid last : List ℕ) → mid ≡ old ++ head → Extends mid last → Extends old last
extends_behind old head mid last e h = extends_through old mid last (subst (Extends old) (sym e) (extends_more old old head (take_all (length old) old (omega arith)))) h
