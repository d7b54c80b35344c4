-- What the bytes of `report.json` are.
use Rattle.std.specs.Prelude.{ℕ, ◌==◌, List, [], ◌∷◌, ◌++◌, if◌then◌else◌, codes, get_or}
use Rattle.serde_json.specs.Data.{Data, number, unsigned, array, object, item, no_items, Members, no_members, put}
use Rattle.serde_json.specs.Written.{compact_text}
use Rattle.build_report.specs.declared.summary.BuildReport.{BuildReport}

abbrev pub count : ℕ → Data
count n = number (unsigned n)

-- three numbers, in order
abbrev pub counts : List ℕ → Data
counts ns = array (item (count (get_or ns 0 0)) (item (count (get_or ns 1 0)) (item (count (get_or ns 2 0)) no_items)))

-- one member for a reason that came
unfoldable pub with_reason : List ℕ → ℕ → Members → Members
with_reason name n members = if n == 0 then members else put name (count n) members

-- The reasons that came, each with its count; the count of the reason with number k + 1 stands at place k. First the
-- first five, and then all.
abbrev pub first_reasons : List ℕ → Members
first_reasons ns =
    with_reason (codes "wrong_to") (get_or ns 4 0)
    (with_reason (codes "wrong_from") (get_or ns 3 0)
    (with_reason (codes "no_modes") (get_or ns 2 0)
    (with_reason (codes "unknown_kind") (get_or ns 1 0)
    (with_reason (codes "conditional") (get_or ns 0 0) no_members))))

abbrev pub skipped_members : List ℕ → Members
skipped_members ns =
    with_reason (codes "too_many_matches") (get_or ns 9 0)
    (with_reason (codes "too_long") (get_or ns 8 0)
    (with_reason (codes "no_match") (get_or ns 7 0)
    (with_reason (codes "no_such_way") (get_or ns 6 0)
    (with_reason (codes "bad_via") (get_or ns 5 0) (first_reasons ns)))))

-- the report as JSON; `put` keeps members in order of their keys
abbrev pub first_members : BuildReport → Members
first_members r =
    put (codes "missing_refs") (count r.missing_refs)
    (put (codes "masks") (count r.masks)
    (put (codes "length_cm") (counts r.length_cm)
    (put (codes "kept_pieces") (count r.kept_pieces)
    (put (codes "format") (count r.format)
    (put (codes "edges") (counts r.edges) no_members)))))

abbrev pub middle_members : BuildReport → Members
middle_members r =
    put (codes "sequences") (count r.sequences)
    (put (codes "runs") (count r.runs)
    (put (codes "relations_read") (count r.relations_read)
    (put (codes "pieces") (count r.pieces)
    (put (codes "nodes_read") (count r.nodes_read)
    (put (codes "nodes") (counts r.nodes)
    (put (codes "modes") (count r.modes) (first_members r)))))))

abbrev pub report_members : BuildReport → Members
report_members r =
    put (codes "ways_read") (count r.ways_read)
    (put (codes "ways") (count r.ways)
    (put (codes "transitions") (count r.transitions)
    (put (codes "tiles") (counts r.tiles)
    (put (codes "skipped") (object (skipped_members r.skipped))
    (put (codes "shortcuts") (counts r.shortcuts) (middle_members r))))))

-- the bytes of `report.json`
abbrev pub report_bytes : BuildReport → List ℕ
report_bytes r = compact_text (object (report_members r)) ++ 10 ∷ []
