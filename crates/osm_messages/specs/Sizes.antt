-- How much there is of what was read. It is never more than the bytes that spell it.
use Rattle.std.specs.Prelude.{ℕ, ◌+◌, List, length, sum_by}
use Rattle.osm_messages.specs.Groups.{Object}
use Rattle.osm_messages.specs.Lists.{Lists}

-- the bytes of all objects
abbrev pub object_bytes : List Object → ℕ
object_bytes objects = sum_by (λ (object : Object). length object.bytes) objects

-- the numbers of all lists
abbrev pub numbers_held : Lists → ℕ
numbers_held lists =
    length lists.field_1 + length lists.field_2 + length lists.field_3 + length lists.field_8 + length lists.field_9 + length lists.field_10
