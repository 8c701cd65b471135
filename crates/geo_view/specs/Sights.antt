-- What is seen of a view.
use Rattle.std.specs.Prelude.{ℕ, List}
use Rattle.geo_view.specs.declared.shown.Change.{Change}
use Rattle.geo_eval.specs.declared.here.Shown.{Shown}
use Rattle.geo_view.specs.declared.shown.ViewKind.{ViewKind}
use Rattle.geo_view.specs.Entries.{seen}
use Rattle.geo_view.specs.Pictures.{picture_text}

-- its kind, and its entries by rising number
pub record Sight : Type 0 where
  pub kind : ViewKind
  pub entries : List Shown

-- its picture
abbrev pub picture_of : Sight → List ℕ
picture_of s = picture_text s.kind s.entries

-- what is seen after some changes
abbrev pub after : List Change → Sight → Sight
after changes s = record { kind = s.kind; entries = seen changes s.entries }
