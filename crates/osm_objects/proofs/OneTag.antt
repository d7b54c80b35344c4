-- One tag: its key, and then its value.
use Rattle.std.proofs.Common.{◌≡◌, ℕ, true, false, List, [], ◌∷◌, ◌++◌, Result, Ok, Err, IsOk, refl, ap, ◌∙◌, append-nil}
use Rattle.osm_model.specs.declared.tags.Tag.{Tag}
use Rattle.osm_objects.specs.declared.fault.ObjectFault.{ObjectFault}
use Rattle.osm_objects.specs.Steps.{◌>>=◌}
use Rattle.osm_objects.specs.Tags.{bytes_at, text_at, keeps, kept_tag, tag_of}
use Rattle.osm_objects.specs.Answers.{after}

pub tag-no_key : (table : List (List ℕ)) (at key value : ℕ) (d : ObjectFault) → keeps table at key ≡ Err d → tag_of table at (key, value) ≡ Err d
unfolding tag_of
tag-no_key table at key value d e = rw e refl

pub tag-dropped : (table : List (List ℕ)) (at key value : ℕ) → keeps table at key ≡ Ok false → tag_of table at (key, value) ≡ (bytes_at table at value >>= λ bytes. Ok [])
unfolding tag_of
tag-dropped table at key value e = rw e refl

tag-kept : (table : List (List ℕ)) (at key value : ℕ) → keeps table at key ≡ Ok true → tag_of table at (key, value) ≡ kept_tag table at (key, value)
unfolding tag_of
tag-kept table at key value e = rw e refl

nothing_more : (items : List Tag) (b : Result (List ℕ) ObjectFault) → IsOk b → after items (b >>= λ bytes. Ok []) ≡ Ok items
nothing_more items (Ok bytes) good = ap (λ l. Ok l) (append-nil items)
nothing_more items (Err d) good = absurd cc

pub after-dropped : (table : List (List ℕ)) (at key value : ℕ) (items : List Tag) → keeps table at key ≡ Ok false → IsOk (bytes_at table at value) → after items (tag_of table at (key, value)) ≡ Ok items
after-dropped table at key value items e good = ap (after items) (tag-dropped table at key value e) ∙ nothing_more items (bytes_at table at value) good

pub after-dropped_fault : (table : List (List ℕ)) (at key value : ℕ) (items : List Tag) (d : ObjectFault) → keeps table at key ≡ Ok false → bytes_at table at value ≡ Err d → after items (tag_of table at (key, value)) ≡ Err d
after-dropped_fault table at key value items d e f = ap (after items) (tag-dropped table at key value e ∙ ap (λ b. b >>= λ bytes. Ok []) f)

pub after-no_key : (table : List (List ℕ)) (at key value : ℕ) (items : List Tag) (d : ObjectFault) → keeps table at key ≡ Err d → after items (tag_of table at (key, value)) ≡ Err d
after-no_key table at key value items d e = ap (after items) (tag-no_key table at key value d e)

pub after-no_text : (table : List (List ℕ)) (at key value : ℕ) (items : List Tag) (d : ObjectFault) → keeps table at key ≡ Ok true → text_at table at key ≡ Err d → after items (tag_of table at (key, value)) ≡ Err d
after-no_text table at key value items d e f =
    ap (after items) (tag-kept table at key value e ∙ ap (λ t. t >>= λ k. text_at table at value >>= λ v. Ok (record { key = k; value = v } ∷ [])) f)

pub after-no_value : (table : List (List ℕ)) (at key value : ℕ) (items : List Tag) (k : List ℕ) (d : ObjectFault) → keeps table at key ≡ Ok true → text_at table at key ≡ Ok k → text_at table at value ≡ Err d → after items (tag_of table at (key, value)) ≡ Err d
after-no_value table at key value items k d e f g =
    ap (after items) (tag-kept table at key value e ∙ ap (λ t. t >>= λ k. text_at table at value >>= λ v. Ok (record { key = k; value = v } ∷ [])) f
    ∙ ap (λ t. t >>= λ v. Ok (record { key = k; value = v } ∷ [])) g)

pub after-kept : (table : List (List ℕ)) (at key value : ℕ) (items : List Tag) (k v : List ℕ) → keeps table at key ≡ Ok true → text_at table at key ≡ Ok k → text_at table at value ≡ Ok v → after items (tag_of table at (key, value)) ≡ Ok (items ++ record { key = k; value = v } ∷ [])
after-kept table at key value items k v e f g =
    ap (after items) (tag-kept table at key value e ∙ ap (λ t. t >>= λ k. text_at table at value >>= λ v. Ok (record { key = k; value = v } ∷ [])) f
    ∙ ap (λ t. t >>= λ v. Ok (record { key = k; value = v } ∷ [])) g)
