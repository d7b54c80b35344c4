-- The program's draft, and what its steps answer against the definitions. Want of memory may come instead.
use Rattle.std.specs.Prelude.{◌≡◌, ℕ, ℤ, if◌then◌else◌, List, [], ◌∷◌, All, Option, Some, None, Result, Ok, Err}
use Rattle.std.specs.Ordering.{int_eq}
use Rattle.pbf_blobs.specs.Answers.{Where}
use Rattle.osm_model.specs.Extract.{AreOrdered}
use Rattle.osm_model.specs.OsmNode.{IsPlaced}
use Rattle.osm_model.specs.declared.extract.Extract.{Extract}
use Rattle.osm_model.specs.declared.relations.MemberKind.{MemberKind}
use Rattle.osm_objects.specs.Objects.{Objects, joined}
use Rattle.osm_objects.specs.Seen.{seen_objects}
use Rattle.osm_blocks.specs.declared.draft.Draft.{Draft as ProgramDraft}
use Rattle.osm_blocks.specs.declared.counts.Counts.{Counts}
use Rattle.osm_blocks.specs.declared.fault.ExtractFault.{ExtractFault}
use Rattle.osm_blocks.specs.Faults.{is_of_bytes}
use Rattle.osm_blocks.specs.Order.{InOrder, IsLeastTwice}
use Rattle.osm_blocks.specs.Counts.{Count, limited_counts}
use Rattle.osm_blocks.specs.Extracts.{◌>>=◌, Draft, EndsWith, IsFinished, IsFirstTwice, lists_of, node_id, way_id, relation_id}

-- what has been read, as the definitions see it
abbrev pub seen : ProgramDraft → Draft
seen draft = record { headed = draft.headed; objects = seen_objects draft.lists }

-- each node that has been read is at a place on the earth
abbrev pub ArePlaced : ProgramDraft → Type 0
ArePlaced draft = All IsPlaced draft.lists.nodes

-- the new value is the one that is given; a fault of the bytes exactly where it is given
abbrev pub Becomes : {A B : Type 0} → Result A ExtractFault → B → Result B ExtractFault → Type 0
Becomes (Ok value) new given = given ≡ Ok new
Becomes (Err fault) new given = Where (is_of_bytes fault) (given ≡ Err fault)

-- a fault, or want of memory
abbrev pub IsOr : ExtractFault → ExtractFault → Type 0
IsOr fault expected = Where (is_of_bytes fault) (fault ≡ expected)

-- ---- blocks

-- the objects of a block were added to the lists; a fault of the bytes exactly where it is given
abbrev pub AddsObjects : Objects → Objects → Result (Unit {0}) ExtractFault → Result Objects ExtractFault → Type 0
AddsObjects old new (Ok _) given = (given >>= λ more. Ok (joined old more)) ≡ Ok new
AddsObjects old new (Err fault) given = Where (is_of_bytes fault) (given ≡ Err fault)

-- ---- order

-- the first id that occurs twice in a row
abbrev pub next_twice : {A : Type 0} → (A → ℤ) → List A → Option ℤ
next_twice id_of [] = None
next_twice id_of (x ∷ []) = None
next_twice id_of (x ∷ y ∷ others) = if int_eq (id_of x) (id_of y) then Some (id_of x) else next_twice id_of (y ∷ others)

-- a list was put in order, or it has an id twice
abbrev pub Orders : {A : Type 0} → (A → ℤ) → List A → List A → Option ℤ → Type 0
Orders id_of old new None = InOrder id_of old new
Orders id_of old new (Some id) = IsLeastTwice id_of old id

-- each kind is in order of id, each id once
abbrev pub AreRising : Objects → Type 0
AreRising lists = AreOrdered lists.nodes lists.ways lists.relations

-- the new lists have the objects of the old ones, each kind in order of id
pub record AreInOrder (old new : Objects) : Type 0 where
  pub nodes : InOrder node_id old.nodes new.nodes
  pub ways : InOrder way_id old.ways new.ways
  pub relations : InOrder relation_id old.relations new.relations

-- the lists of all kinds were put in order, or one of them has an id twice
abbrev pub OrdersAll : Objects → Objects → Option (MemberKind × ℤ) → Type 0
OrdersAll old new None = AreInOrder old new
OrdersAll old new (Some (kind, id)) = IsFirstTwice old kind id

-- ---- counts

-- the program's counts, each with its limit
abbrev pub counts_found : Counts → List Count
counts_found counts = limited_counts counts.nodes counts.ways counts.relations counts.refs counts.members counts.tags

-- ---- the end

-- The draft of an input of so many bytes was finished, or the fault is that of its end.
abbrev pub Finishes : ℕ → Draft → Result Extract ExtractFault → Type 0
Finishes size draft (Ok extract) = IsFinished draft (lists_of extract)
Finishes size draft (Err fault) = Where (is_of_bytes fault) (EndsWith size draft fault)
