use Rattle.std.proofs.Common.{◌≡◌, ◌<◌, ℕ, List, sym, subst, length, get_or, arith}
use Rattle.std.specs.Prelude.{All}
use Rattle.osm_model.specs.declared.extract.Extract.{Extract}
use Rattle.road_pieces.specs.Lines.{Line, IsSound, all_lines}
use Rattle.road_pieces.proofs.LineLemmas.{lines_sound}
use Rattle.road_pieces.proofs.crossings.count_places.Goals as goal

-- the places of lines are places of nodes
inside : (x : Extract) (ls : List Line) (n : ℕ) → ls ≡ all_lines x → n ≡ length x.nodes → All (λ l. All (λ p. p < n) l.places) ls
inside x ls n e f =
    λ k d h. subst (λ m. All (λ p. p < m) (get_or ls k d).places) (sym f) (subst (All (IsSound x)) (sym e) (lines_sound x) k d h).places

pub mark_all-requires : goal.mark_all-requires
mark_all-requires c = inside c.args.extract.now _ _ c.requires (omega (arith, c.in_ok-marks.ensures.len, c.len.ensures))
