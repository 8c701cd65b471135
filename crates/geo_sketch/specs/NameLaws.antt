-- A name gives its bytes and its length back.
use Rattle.std.specs.Prelude.{◌≡◌, ◌≤◌, true, length, take}
use Rattle.std.proofs.Common.{arith, sym, ◌∙◌}
use Rattle.std.proofs.lemmas.List.{length-take}
use Rattle.geo_sketch.specs.Names.{is_name, padded}
use Rattle.geo_sketch.specs.declared.names.Name.TheInside.{Inside}

pub padded_back : (a : Inside) → (is_name (take a.len a.bytes) ≡ true) × (a.len ≤ 8) × (length a.bytes ≡ 8) × (a.bytes ≡ padded (take a.len a.bytes)) → record { bytes = padded (take a.len a.bytes); len = length (take a.len a.bytes) } ≡ a
padded_back a h =
    let same : length (take a.len a.bytes) ≡ a.len = length-take a.len a.bytes ∙ omega (arith, h.1, h.2) in
    λ i. record { bytes = sym h.3 i; len = same i }
