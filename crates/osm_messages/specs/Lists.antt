-- The numbers of an object, list by list. The first half speaks of the format. The second half is how the program
-- fills the lists; a reader of the format may skip it.
use Rattle.std.specs.Prelude.{ℕ, Bool, ◌==◌, ◌||◌, if◌then◌else◌, List, [], ◌∷◌, ◌++◌, Result, Ok}
use Rattle.wire_read.specs.Fields.{Content, Varint, Fixed64, Bytes, Fixed32, WireField, packed_of}
use Rattle.osm_messages.specs.declared.fault.MessageFault.{MessageFault}
use Rattle.osm_messages.specs.declared.lists.NumberLists.{NumberLists}
use Rattle.osm_messages.specs.Walks.{◌>>=◌, walk}
use Rattle.osm_messages.specs.Numbers.{Shape, is_field_among, numbered}

-- one list for each number that a field with numbers has in some message; RawNumbers gives them the names of the fields
pub record Lists : Type 0 where
  pub field_1 : List ℕ
  pub field_2 : List ℕ
  pub field_3 : List ℕ
  pub field_8 : List ℕ
  pub field_9 : List ℕ
  pub field_10 : List ℕ

-- those of the program
abbrev pub seen_lists : NumberLists → Lists
seen_lists lists = record {
  field_1 = lists.field_1.items;
  field_2 = lists.field_2.items;
  field_3 = lists.field_3.items;
  field_8 = lists.field_8.items;
  field_9 = lists.field_9.items;
  field_10 = lists.field_10.items;
}

-- those of the numbers of an object
abbrev pub number_lists : List (ℕ × ℕ) → Lists
number_lists numbers = record {
  field_1 = numbered 1 numbers;
  field_2 = numbered 2 numbers;
  field_3 = numbered 3 numbers;
  field_8 = numbered 8 numbers;
  field_9 = numbered 9 numbers;
  field_10 = numbered 10 numbers;
}

-- the same, where the numbers are spelled
abbrev pub listed_numbers : Result (List (ℕ × ℕ)) MessageFault → Result Lists MessageFault
listed_numbers numbers = numbers >>= λ all. Ok (number_lists all)

-- ---- as the program fills them; a reader of the format may skip this

-- the field has a list
abbrev pub has_list : ℕ → Bool
has_list field = is_field_among field (1 ∷ 2 ∷ 3 ∷ 8 ∷ 9 ∷ 10 ∷ [])

-- the list of a field; the lists with another one for that field
abbrev pub list_at : ℕ → Lists → List ℕ
list_at field lists =
    if field == 1 then lists.field_1
    else (if field == 2 then lists.field_2
    else (if field == 3 then lists.field_3
    else (if field == 8 then lists.field_8
    else (if field == 9 then lists.field_9
    else lists.field_10))))

abbrev pub with_list : ℕ → Lists → List ℕ → Lists
with_list field lists list =
    if field == 1 then record lists { field_1 = list }
    else (if field == 2 then record lists { field_2 = list }
    else (if field == 3 then record lists { field_3 = list }
    else (if field == 8 then record lists { field_8 = list }
    else (if field == 9 then record lists { field_9 = list }
    else record lists { field_10 = list }))))

-- one number more; the packed numbers of these bytes more
abbrev pub with_value : List ℕ → ℕ → Result (List ℕ) MessageFault
with_value list n = Ok (list ++ n ∷ [])

abbrev pub with_values : List ℕ → ℕ → List ℕ → Result (List ℕ) MessageFault
with_values list at bytes = walk with_value list (packed_of at bytes)

-- the same in the list of a field
abbrev pub put_value : ℕ → Lists → ℕ → Result Lists MessageFault
put_value field lists n = with_value (list_at field lists) n >>= λ list. Ok (with_list field lists list)

abbrev pub put_values : ℕ → Lists → ℕ → List ℕ → Result Lists MessageFault
put_values field lists at bytes = with_values (list_at field lists) at bytes >>= λ list. Ok (with_list field lists list)

-- the numbers of one field more
abbrev pub put_held : Shape → ℕ → ℕ → Content → Lists → Result Lists MessageFault
put_held shape field at (Varint n) lists =
    if is_field_among field shape.singles || is_field_among field shape.lists then put_value field lists n else Ok lists
put_held shape field at (Fixed64 n) lists = Ok lists
put_held shape field at (Bytes bytes) lists = if is_field_among field shape.lists then put_values field lists at bytes else Ok lists
put_held shape field at (Fixed32 n) lists = Ok lists

abbrev pub list_step : Shape → Lists → WireField → Result Lists MessageFault
list_step shape lists field = put_held shape field.number field.body_at field.content lists
