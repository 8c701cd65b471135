-- What a history holds, and how undo and redo move along it.
use Rattle.std.specs.Prelude.{◌≡◌, ◌++◌, List, [], ◌∷◌}
use Rattle.geo_sketch.specs.declared.changes.Delta.{Delta}
use Rattle.geo_sketch.specs.Changes.{AllLead}
use Rattle.geo_sketch.specs.Sketches.{blank}

-- the changes that are done, in the order of doing, and those that were undone, the
-- first of which is the one that redo does again
pub record Timeline : Type 0 where
  pub done : List Delta
  pub undone : List Delta

-- each change leads from what those before it make, the undone ones too
abbrev pub IsSound : Timeline → Type 0
IsSound timeline = AllLead blank (timeline.done ++ timeline.undone)

-- nothing is done
abbrev pub unstarted : Timeline
unstarted = record { done = []; undone = [] }

-- with one more change done, which leaves nothing undone
abbrev pub continued : Timeline → Delta → Timeline
continued timeline d = record { done = timeline.done ++ (d ∷ []); undone = [] }

-- the last done change is d, and it becomes the first undone one
pub record Undoes (before after : Timeline) (d : Delta) : Type 0 where
  pub done : before.done ≡ after.done ++ (d ∷ [])
  pub undone : after.undone ≡ d ∷ before.undone

-- the first undone change is d, and it becomes the last done one
pub record Redoes (before after : Timeline) (d : Delta) : Type 0 where
  pub undone : before.undone ≡ d ∷ after.undone
  pub done : after.done ≡ before.done ++ (d ∷ [])
