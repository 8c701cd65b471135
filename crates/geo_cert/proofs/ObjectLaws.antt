-- The count of the members chooses how a certificate is read.
use Rattle.std.proofs.Common.{◌≡◌, ◌≢◌, ℕ, List, [], ◌∷◌, length, true, false, refl, arith, ◌+◌}
use Rattle.std.specs.Prelude.{◌==◌, option_and_then, String}
use Rattle.std.proofs.lemmas.Bool.Decides.{nat_tests}
use Rattle.std.specs.declared.alloc.Global.{Global}
use Rattle.serde_json.specs.Data.{Members}
use Rattle.serde_json.specs.View.{members_view}
use Rattle.serde_json.specs.declared.value.Value.{Value}
use Rattle.geo_cert.specs.Objects.{certificate_in, false_of, false_parts, member_count, proved_of, proved_parts}

pub count-members : (ms : List (String Global × Value)) → member_count (members_view ms) ≡ length ms
count-members [] = refl
count-members (m ∷ ms) = omega (arith, count-members ms)

six : (ms : Members) → member_count ms ≡ 6 → certificate_in ms ≡ option_and_then proved_of (proved_parts ms)
six ms h = let t : (member_count ms == 6) ≡ true = grind (arith, nat_tests) in rw t refl

not_six : (ms : Members) → member_count ms ≢ 6 → certificate_in ms ≡ option_and_then false_of (false_parts ms)
not_six ms h = let t : (member_count ms == 6) ≡ false = grind (arith, nat_tests) in rw t refl

pub of_six : (ms : List (String Global × Value)) → length ms ≡ 6 → certificate_in (members_view ms) ≡ option_and_then proved_of (proved_parts (members_view ms))
of_six ms h = six (members_view ms) (omega (arith, count-members ms))

pub of_others : (ms : List (String Global × Value)) → length ms ≢ 6 → certificate_in (members_view ms) ≡ option_and_then false_of (false_parts (members_view ms))
of_others ms h = not_six (members_view ms) (λ e. h (omega (arith, count-members ms)))
