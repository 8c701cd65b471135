-- What the values of the members stand for.
use Rattle.serde_json.specs.View.{view}
use Rattle.geo_cert.specs.declared.members.ProvedParts.{ProvedParts}
use Rattle.geo_cert.specs.declared.members.FalseParts.{FalseParts}
use Rattle.geo_cert.specs.Objects.{FalseData, ProvedData}

abbrev pub proved_shown : ProvedParts → ProvedData
proved_shown p = record { claim = view p.claim; degrees = view p.degrees; elements = view p.elements; grid = view p.grid; verdict = view p.verdict; version = view p.version }

abbrev pub false_shown : FalseParts → FalseData
false_shown p = record { claim = view p.claim; elements = view p.elements; values = view p.values; verdict = view p.verdict; version = view p.version }
