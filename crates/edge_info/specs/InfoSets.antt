-- The infos of a tile: entries, the texts that they name, and zero bytes up to a multiple of 8.
use Rattle.std.specs.Prelude.{◌≡◌, ℕ, ◌+◌, ◌-◌, ◌%◌, ◌==◌, List, [], ◌∷◌, ◌++◌, length, take, drop, replicate, Result, Ok, Err, if◌then◌else◌}
use Rattle.section_grammar.specs.Reads.{◌>>=◌}
use Rattle.section_grammar.specs.Answers.{FailedCheck, Check, place_of}
use Rattle.edge_info.specs.declared.infos.Info.{Info}
use Rattle.edge_info.specs.declared.infos.InfoSet.{InfoSet}
use Rattle.edge_info.specs.Entries.{AreInfos, infos_bytes, names_of}
use Rattle.edge_info.specs.EntryReading.{entries_at}
use Rattle.edge_info.specs.Texts.{AreTexts, texts_bytes}
use Rattle.edge_info.specs.TextReading.{texts_at}

-- ---- the grammar

-- how many zero bytes lead from a size to a multiple of 8
abbrev pub gap : ℕ → ℕ
gap n = (8 - n % 8) % 8

-- entries, and the texts that they name
pub record IsInfoSet (set : InfoSet) : Type 0 where
  pub infos : AreInfos (length set.texts) set.infos
  pub texts : AreTexts (names_of set.infos) set.texts

-- the bytes of entries and texts: the entries, the texts, and zeros up to a multiple of 8
unfoldable pub joined_bytes : List Info → List (List ℕ) → List ℕ
joined_bytes infos texts =
    infos_bytes infos ++ (texts_bytes texts ++ replicate (gap (length (infos_bytes infos) + length (texts_bytes texts))) 0)

-- the bytes spell a set whose entries and texts have these sizes, and whose texts are so many
pub record SpellsInfos (bytes : List ℕ) (info_len text_len text_count : ℕ) (set : InfoSet) : Type 0 where
  pub good : IsInfoSet set
  pub info_size : length (infos_bytes set.infos) ≡ info_len
  pub text_size : length (texts_bytes set.texts) ≡ text_len
  pub count : length set.texts ≡ text_count
  pub spelled : bytes ≡ joined_bytes set.infos set.texts

-- ---- reading

-- the number of the check on the padding
abbrev pub padding_check : ℕ
padding_check = 16

-- zeros, up to the first byte that is none
unfoldable pub padding_at : ℕ → List ℕ → Result (Unit {0}) FailedCheck
padding_at end [] = Ok tt
padding_at end (b ∷ bytes) =
    if b == 0 then padding_at end bytes else Err (Check padding_check (place_of end (b ∷ bytes)))

-- the three parts, one after the other
unfoldable pub info_set_at : ℕ → ℕ → ℕ → List ℕ → Result InfoSet FailedCheck
info_set_at info_len text_len text_count bytes =
    entries_at info_len text_count (take info_len bytes) >>= λ infos.
    texts_at (info_len + text_len) (names_of infos) text_count (take text_len (drop info_len bytes)) >>= λ texts.
    padding_at (length bytes) (drop text_len (drop info_len bytes)) >>= λ _.
    Ok (record { infos = infos; texts = texts })
