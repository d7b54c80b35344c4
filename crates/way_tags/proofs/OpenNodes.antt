-- A node that is no barrier passes each mode that the access of a way can have.
use Rattle.std.proofs.Common.{◌≡◌, ◌≢◌, ℕ, false, cond, true, sym, ap, ◌∙◌, List}
use Rattle.std.specs.Prelude.{bit_and, codes}
use Rattle.std.specs.Option.{option_map_or}
use Rattle.std.specs.Int.Bits.{and_zero_r}
use Rattle.std.proofs.lemmas.Nat.{and_assoc}
use Rattle.osm_model.specs.declared.tags.Tag.{Tag}
use Rattle.osm_model.specs.Tags.{value_of}
use Rattle.way_tags.specs.declared.directions.Dir.{Dir}
use Rattle.way_tags.specs.Modes.{word_of}
use Rattle.way_tags.specs.Ways.{road_access, is_permitted}
use Rattle.way_tags.specs.Nodes.{is_barrier_node, node_modes, passes_barrier}
use Rattle.way_tags.proofs.Words.{within_all}

pub all_pass : (node : List Tag) → is_barrier_node node ≡ false → node_modes node ≡ 79
all_pass node plain = ap (λ b. word_of (λ mode. cond b (option_map_or (passes_barrier node mode) (value_of (codes "barrier") node) true) true)) plain

pub open_nodes : (node way : List Tag) (direction : Dir) (modes : ℕ) → is_barrier_node node ≡ false → bit_and (road_access way direction) modes ≢ 0 → bit_and (node_modes node) modes ≢ 0
open_nodes node way direction modes plain uses closed =
    uses
    (ap (λ w. bit_and w modes) (sym (within_all (is_permitted way direction)))
    ∙ and_assoc modes (road_access way direction) 79
    ∙ ap (λ w. bit_and (road_access way direction) (bit_and w modes)) (sym (all_pass node plain))
    ∙ ap (bit_and (road_access way direction)) closed
    ∙ and_zero_r (road_access way direction))
