-- How the loops over the fields of tables, headers and blocks begin.
use Rattle.std.proofs.Common.{ℕ, List, [], refl}
use Rattle.osm_messages.specs.Texts.{text_step, texts_in}
use Rattle.osm_messages.specs.Headers.{feature_step, features_in}
use Rattle.osm_messages.specs.Blocks.{no_block, block_step, block_in}
use Rattle.osm_messages.proofs.Walks.{Going, left_of, begun}

pub texts-begun : (at : ℕ) (bytes : List ℕ) → Going (texts_in at bytes) (left_of text_step [] (begun at bytes)) (begun at bytes)
unfolding texts_in
texts-begun at bytes = record { unbroken = refl; same = refl }

pub features-begun : (at : ℕ) (bytes : List ℕ) → Going (features_in at bytes) (left_of feature_step [] (begun at bytes)) (begun at bytes)
unfolding features_in
features-begun at bytes = record { unbroken = refl; same = refl }

pub block-begun : (at : ℕ) (bytes : List ℕ) → Going (block_in at bytes) (left_of block_step no_block (begun at bytes)) (begun at bytes)
unfolding block_in
block-begun at bytes = record { unbroken = refl; same = refl }
