-- What is known from the parts that are at hand, and which part is missing.
use Rattle.std.specs.Prelude.{◌≡◌, ℕ, Some, List, slice_get, All}
use Rattle.osm_model.specs.Extract.{IdsRise}
use Rattle.work_tile.specs.WorkRows.{WorkNode, WorkRows}
use Rattle.enhancer.specs.declared.held.Held.{Held}
use Rattle.enhancer.specs.declared.looks.Look.{Look}
use Rattle.enhancer.specs.declared.looks.Look.TheVariants.{Looked, Full, Unread}
use Rattle.enhancer.specs.declared.held.Told.{Told}
use Rattle.enhancer.specs.declared.held.Told.TheVariants.{Known, Missing}

-- the rows at hand are those of their places
pub record Holds (held : List Held) (ps : List WorkRows) : Type 0 where
  pub stands : (k : ℕ) (h : Held) → slice_get held k ≡ Some h → slice_get ps h.place ≡ Some h.rows

-- the nodes of all rows at hand are in order of OSM id
abbrev pub HeldRise : List Held → Type 0
HeldRise held = All (λ h. IdsRise (λ (n : WorkNode). n.osm) h.rows.nodes) held

abbrev pub IfLooked : Look → Type 0 → Type 0
IfLooked Looked P = P
IfLooked _ P = Unit {0}

abbrev pub IfFull : Look → Type 0 → Type 0
IfFull Full P = P
IfFull _ P = Unit {0}

abbrev pub IfUnread : Look → (ℕ → Type 0) → Type 0
IfUnread (Unread j) P = P j
IfUnread _ P = Unit {0}

abbrev pub IfKnown : {T : Type 0} → Told T → (T → Type 0) → Type 0
IfKnown (Known x) P = P x
IfKnown (Missing j) P = Unit {0}

abbrev pub IfMissing : {T : Type 0} → Told T → (ℕ → Type 0) → Type 0
IfMissing (Known x) P = Unit {0}
IfMissing (Missing j) P = P j
