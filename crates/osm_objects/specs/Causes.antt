-- Which faults stand in the objects of a PrimitiveBlock, each as a cause with its rank, in the words of the format. Many may
-- stand there; a reader is told the first one.
use Rattle.std.specs.Prelude.{FitsSigned, ◌≡◌, ◌≢◌, ◌⊎◌, ℕ, ◌+◌, ◌<◌, ◌≤◌, ℤ, List, [], ◌∷◌, ◌++◌, map, length, Some, None, slice_get}
use Rattle.std.specs.Int.{w64}
use Rattle.std.specs.List.{flat_map, AllByRecursion}
use Rattle.std.specs.Str.{IsUtf8}
use Rattle.wire_read.specs.ZigZag.{unzigzag_of}
use Rattle.osm_messages.specs.declared.kind.ObjectKind.{ObjectKind}
use Rattle.osm_messages.specs.declared.kind.ObjectKind.TheVariants as kinds
use Rattle.osm_messages.specs.declared.fields.TheConstants.{BLOCK_STRINGTABLE, NODE_ID, NODE_KEYS, NODE_VALS, NODE_LAT, NODE_LON, DENSE_ID, DENSE_LAT, DENSE_LON, DENSE_KEYS_VALS, WAY_ID, WAY_KEYS, WAY_VALS, WAY_REFS, RELATION_ID, RELATION_KEYS, RELATION_VALS, RELATION_ROLES_SID, RELATION_MEMIDS, RELATION_TYPES}
use Rattle.osm_messages.specs.Groups.{Object}
use Rattle.osm_messages.specs.Blocks.{Block}
use Rattle.osm_messages.specs.Means.{IsObject}
use Rattle.osm_objects.specs.declared.fault.ObjectFault.{ObjectFault}
use Rattle.osm_objects.specs.declared.fault.ObjectFault.TheVariants as faults
use Rattle.osm_objects.specs.declared.scale.Scale.{Scale}
use Rattle.osm_objects.specs.Means.{HeldNumbers, held_by, IsLastOf, HoldsOfOne, sum_at, HasTextAt, IsKept, ArePairs, AreGroups, IsPlaceAt, IsOnEarth, lat_nano, lon_nano, units_in}

-- ---- causes and their ranks

pub data ObjectCause : Type 0 where
  -- the field of this number isn't there
  Lacks : ℕ → ObjectCause
  -- lists that belong together differ in length, or a member has a type that isn't one
  IsOdd : ObjectCause
  -- a sum of differences isn't a signed number of 64 bits
  IsPast : ObjectCause
  -- of the texts that the object names, the one with this place, whose index is that
  NoText : ℕ → ℕ → ObjectCause
  -- of the object's nodes, the one with this place, whose id is that
  NoPlace : ℕ → ℤ → ObjectCause

-- first by the kind of the fault, and then by the place within
abbrev pub rank_of : ObjectCause → ℕ × ℕ
rank_of (Lacks number) = (0, number)
rank_of IsOdd = (1, 0)
rank_of IsPast = (2, 0)
rank_of (NoText place index) = (3, place)
rank_of (NoPlace place id) = (4, place)

abbrev pub IsUpTo : ℕ × ℕ → ℕ × ℕ → Type 0
IsUpTo one other = (one.0 < other.0) ⊎ ((one.0 ≡ other.0) × (one.1 ≤ other.1))

-- the fault that is answered, for an object whose first byte stands at this place
abbrev pub fault_of : ℕ → ObjectCause → ObjectFault
fault_of at (Lacks number) = faults.MissingField at number
fault_of at IsOdd = faults.Uneven at
fault_of at IsPast = faults.BadNumber at
fault_of at (NoText place index) = faults.BadString at index
fault_of at (NoPlace place id) = faults.BadCoordinate id

-- ---- fields

-- a node needs its id, its latitude and its longitude, a way and a relation their id
abbrev pub IsNeeded : ObjectKind → ℕ → Type 0
IsNeeded kinds.Node number = (number ≡ NODE_ID) ⊎ ((number ≡ NODE_LAT) ⊎ (number ≡ NODE_LON))
IsNeeded kinds.DenseNodes number = ⊥
IsNeeded kinds.Way number = number ≡ WAY_ID
IsNeeded kinds.Relation number = number ≡ RELATION_ID

-- ---- lists that belong together

-- the lists of these two fields
abbrev pub Differ : HeldNumbers → ℕ → ℕ → Type 0
Differ held one other = length (held one) ≢ length (held other)

-- keys and values; ids, latitudes, longitudes and groups; roles, ids and types of members, of which 2 is the greatest
abbrev pub IsUneven : ObjectKind → HeldNumbers → Type 0
IsUneven kinds.Node held = Differ held NODE_KEYS NODE_VALS
IsUneven kinds.DenseNodes held =
    Differ held DENSE_ID DENSE_LAT
    ⊎ (Differ held DENSE_ID DENSE_LON ⊎ ((groups : List (List (ℕ × ℕ))) → AreGroups (held DENSE_KEYS_VALS) groups → length groups ≢ length (held DENSE_ID)))
IsUneven kinds.Way held = Differ held WAY_KEYS WAY_VALS
IsUneven kinds.Relation held =
    Differ held RELATION_KEYS RELATION_VALS
    ⊎ (Differ held RELATION_ROLES_SID RELATION_MEMIDS ⊎ (Differ held RELATION_ROLES_SID RELATION_TYPES ⊎ HoldsOfOne (λ (type : ℕ). 2 < type) (held RELATION_TYPES)))

-- ---- sums

-- one of the sums is no signed number of 64 bits
abbrev pub HasBadSum : List ℕ → Type 0
HasBadSum differences = (i : ℕ) × (i < length differences) × (FitsSigned w64 (sum_at i differences) → ⊥)

abbrev pub IsBadNumber : ObjectKind → HeldNumbers → Type 0
IsBadNumber kinds.Node held = ⊥
IsBadNumber kinds.DenseNodes held = HasBadSum (held DENSE_ID) ⊎ (HasBadSum (held DENSE_LAT) ⊎ HasBadSum (held DENSE_LON))
IsBadNumber kinds.Way held = HasBadSum (held WAY_REFS)
IsBadNumber kinds.Relation held = HasBadSum (held RELATION_MEMIDS)

-- ---- texts

-- what an object names by an index: a key; the value of a key; a role
pub data NamedText : Type 0 where
  KeyText : ℕ → NamedText
  ValueText : ℕ → ℕ → NamedText
  RoleText : ℕ → NamedText

abbrev pub index_of : NamedText → ℕ
index_of (KeyText index) = index
index_of (ValueText key index) = index
index_of (RoleText index) = index

-- the text isn't in the table, or it is and isn't UTF-8 where it has to be
abbrev pub IsBadText : (List ℕ → Type 0) → List (List ℕ) → ℕ → Type 0
IsBadText IsNeededIn table index =
    (slice_get table index ≡ None) ⊎ ((text : List ℕ) × HasTextAt table index text × IsNeededIn text × (IsUtf8 text → ⊥))

-- a kept key and its value have to be UTF-8, and so has a role
abbrev pub IsBadName : List (List ℕ) → NamedText → Type 0
IsBadName table (KeyText index) = IsBadText IsKept table index
IsBadName table (ValueText key index) = IsBadText (λ (text : List ℕ). (kept : List ℕ) × HasTextAt table key kept × IsKept kept) table index
IsBadName table (RoleText index) = IsBadText (λ (text : List ℕ). Unit {0}) table index

-- the names of tags, tag by tag, each key before its value; and those of roles
abbrev pub tag_names : List (ℕ × ℕ) → List NamedText
tag_names pairs = flat_map (λ (pair : ℕ × ℕ). KeyText pair.0 ∷ ValueText pair.0 pair.1 ∷ []) pairs

abbrev pub role_names : List ℕ → List NamedText
role_names roles = map (λ (index : ℕ). RoleText index) roles

-- all pairs of groups
abbrev pub pairs_in : List (List (ℕ × ℕ)) → List (ℕ × ℕ)
pairs_in groups = flat_map (λ (group : List (ℕ × ℕ)). group) groups

-- what an object names, in order: the roles of a relation stand behind its tags
abbrev pub AreNames : ObjectKind → HeldNumbers → List NamedText → Type 0
AreNames kinds.Node held names = (pairs : List (ℕ × ℕ)) × ArePairs (held NODE_KEYS) (held NODE_VALS) pairs × (names ≡ tag_names pairs)
AreNames kinds.DenseNodes held names =
    (groups : List (List (ℕ × ℕ))) × AreGroups (held DENSE_KEYS_VALS) groups × (length groups ≡ length (held DENSE_ID)) × (names ≡ tag_names (pairs_in groups))
AreNames kinds.Way held names = (pairs : List (ℕ × ℕ)) × ArePairs (held WAY_KEYS) (held WAY_VALS) pairs × (names ≡ tag_names pairs)
AreNames kinds.Relation held names =
    (pairs : List (ℕ × ℕ)) × ArePairs (held RELATION_KEYS) (held RELATION_VALS) pairs × (names ≡ tag_names pairs ++ role_names (held RELATION_ROLES_SID))

-- the name with this place has this index, and its text is a bad one
pub record HasBadName (table : List (List ℕ)) (kind : ObjectKind) (held : HeldNumbers) (place index : ℕ) : Type 0 where
  pub names : List NamedText
  pub are_names : AreNames kind held names
  pub name : NamedText
  pub stands : slice_get names place ≡ Some name
  pub index_is : index ≡ index_of name
  pub bad : IsBadName table name

-- ---- places

-- there is no such place on the earth
abbrev pub IsOffEarth : Scale → ℤ → ℤ → Type 0
IsOffEarth scale lat lon = (units_lat units_lon : ℤ) × IsPlaceAt (lat_nano scale lat) (lon_nano scale lon) units_lat units_lon × (IsOnEarth units_lat units_lon → ⊥)

-- the node of a node's fields
pub record IsOneOff (scale : Scale) (held : HeldNumbers) (place : ℕ) (id : ℤ) : Type 0 where
  pub first : place ≡ 0
  pub number : ℕ
  pub lat : ℕ
  pub lon : ℕ
  pub has_id : IsLastOf (held NODE_ID) number
  pub has_lat : IsLastOf (held NODE_LAT) lat
  pub has_lon : IsLastOf (held NODE_LON) lon
  pub id_is : id ≡ unzigzag_of number
  pub off : IsOffEarth scale (unzigzag_of lat) (unzigzag_of lon)

-- the node with this index in a DenseNodes
pub record IsRowOff (scale : Scale) (held : HeldNumbers) (place : ℕ) (id : ℤ) : Type 0 where
  pub within : place < length (held DENSE_ID)
  pub id_is : id ≡ sum_at place (held DENSE_ID)
  pub off : IsOffEarth scale (sum_at place (held DENSE_LAT)) (sum_at place (held DENSE_LON))

abbrev pub IsMisplaced : ObjectKind → Scale → HeldNumbers → ℕ → ℤ → Type 0
IsMisplaced kinds.Node scale held place id = IsOneOff scale held place id
IsMisplaced kinds.DenseNodes scale held place id = IsRowOff scale held place id
IsMisplaced kinds.Way scale held place id = ⊥
IsMisplaced kinds.Relation scale held place id = ⊥

-- ---- the first of them

-- the cause stands in the object with these numbers
abbrev pub IsCauseIn : List (List ℕ) → Scale → ObjectKind → HeldNumbers → ObjectCause → Type 0
IsCauseIn table scale kind held (Lacks number) = IsNeeded kind number × (held number ≡ [])
IsCauseIn table scale kind held IsOdd = IsUneven kind held
IsCauseIn table scale kind held IsPast = IsBadNumber kind held
IsCauseIn table scale kind held (NoText place index) = HasBadName table kind held place index
IsCauseIn table scale kind held (NoPlace place id) = IsMisplaced kind scale held place id

-- the fault is that of a cause that stands there, and no other that stands there comes before it
pub record IsFirstCause (table : List (List ℕ)) (scale : Scale) (kind : ObjectKind) (held : HeldNumbers) (at : ℕ) (fault : ObjectFault) : Type 0 where
  pub cause : ObjectCause
  pub stands : IsCauseIn table scale kind held cause
  pub fault_is : fault ≡ fault_of at cause
  pub first : (other : ObjectCause) → IsCauseIn table scale kind held other → IsUpTo (rank_of cause) (rank_of other)

-- the first fault of an object with its numbers
pub record HasFirstFault (table : List (List ℕ)) (scale : Scale) (object : Object) (fault : ObjectFault) : Type 0 where
  pub numbers : List (ℕ × ℕ)
  pub spells : IsObject object.kind object.at object.bytes numbers
  pub first : IsFirstCause table scale object.kind (held_by numbers) object.at fault

-- no cause stands in the object
pub record HasNoFault (table : List (List ℕ)) (scale : Scale) (object : Object) : Type 0 where
  pub numbers : List (ℕ × ℕ)
  pub spells : IsObject object.kind object.at object.bytes numbers
  pub none : (cause : ObjectCause) → IsCauseIn table scale object.kind (held_by numbers) cause → ⊥

-- the first fault of objects: none stands in the objects before that one
pub record IsFirstAmong (table : List (List ℕ)) (scale : Scale) (objects : List Object) (fault : ObjectFault) : Type 0 where
  pub before : List Object
  pub object : Object
  pub after : List Object
  pub parts : objects ≡ before ++ object ∷ after
  pub good : AllByRecursion (HasNoFault table scale) before
  pub bad : HasFirstFault table scale object fault

-- the first fault of a block: it has no string table; or it is that of its objects
abbrev pub IsFirstOfBlock : ℕ → Block → ObjectFault → Type 0
IsFirstOfBlock at block fault =
    ((block.texts ≡ None) × (fault ≡ faults.MissingField at BLOCK_STRINGTABLE))
    ⊎ ((table : List (List ℕ)) × (block.texts ≡ Some table) × IsFirstAmong table (units_in block) block.objects fault)
