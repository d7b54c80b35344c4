-- An index of nodes by id. Ids are laid into buckets, stretches of 2 ^ shift ids from the first one on; where
-- a bucket starts is how many nodes stand before it.
use Rattle.std.specs.Prelude.{◌≡◌, ◌<◌, ◌≤◌, ◌≤ℤ◌, ◌↔◌, ℕ, ℤ, ◌+◌, ◌/◌, ◌^◌, ◌-ℤ◌, List, length, unsigned_abs, slice_index, slice_index_or}
use Rattle.osm_model.specs.declared.nodes.OsmNode.{OsmNode}

-- the bucket of an id, which depends on how far it is from the first id
abbrev pub bucket_of : ℤ → ℕ → ℤ → ℕ
bucket_of first shift id = unsigned_abs (id -ℤ first) / 2 ^ shift

-- the first node has this id, and none has one below
pub record BeginsAt (nodes : List OsmNode) (first : ℤ) : Type 0 where
  pub first_is : (d : OsmNode) → 0 < length nodes → (slice_index_or nodes 0 d).id ≡ first
  pub none_below : (k : ℕ) (d : OsmNode) → k < length nodes → first ≤ℤ (slice_index_or nodes k d).id

-- no node has a bucket past that many
pub record TakesBuckets (nodes : List OsmNode) (first : ℤ) (shift count : ℕ) : Type 0 where
  pub few : (k : ℕ) (d : OsmNode) → k < length nodes → bucket_of first shift (slice_index_or nodes k d).id < count

-- each node stands before the starts of the buckets after its own and of no others, and its own bucket has a
-- start and an end
pub record IsIndex (nodes : List OsmNode) (first : ℤ) (shift : ℕ) (starts : List ℕ) : Type 0 where
  pub before : (b k : ℕ) (d : OsmNode) → b < length starts → k < length nodes → (k < slice_index starts b) ↔ (bucket_of first shift (slice_index_or nodes k d).id < b)
  pub kept : (k : ℕ) (d : OsmNode) → k < length nodes → bucket_of first shift (slice_index_or nodes k d).id + 1 < length starts
  pub inside : (b : ℕ) → b < length starts → slice_index starts b ≤ length nodes
  pub narrow : shift < 64
  pub small : length starts ≤ length nodes + 1

-- no node outside these places has the id
pub record OnlyWithin (nodes : List OsmNode) (id : ℤ) (low high : ℕ) : Type 0 where
  pub only : (k : ℕ) (d : OsmNode) → k < length nodes → (slice_index_or nodes k d).id ≡ id → (low ≤ k) × (k < high)
  pub inside : high ≤ length nodes
