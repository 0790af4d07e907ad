-- The file of records that are held as pairs and bytes.
use Rattle.std.proofs.Common.{◌≡◌, ℕ, ◌+◌, ◌-◌, ◌*◌, ◌^◌, ◌<◌, ◌≤◌, List, [], ◌∷◌, ◌++◌, map, length, get_or, take, drop, sym, refl, ap, ◌∙◌, arith}
use Rattle.std.specs.List.{All}
use Rattle.std.proofs.lemmas.List.{append_assoc, length-append, length-map, length-take-le, take_all, take_more, flat_map_more}
use Rattle.umem.specs.Frames.{written}
use Rattle.umem.proofs.Written.{written_more}
use Rattle.model.specs.Traces.{word, table, packed, file, Traceable}
use Rattle.model.proofs.Packing.{all, start}
use Rattle.trace.specs.declared.pairs.Pair.{Pair}
use Rattle.trace.specs.Pairs.{cut, cut_records, rows, Listed, Sized}
use Rattle.trace.proofs.Chains.{Chained, chained, chained_below, ends_within, parts_joined, cuts_sized, rows_table}
use Rattle.trace.proofs.Held.{laid_all, records_fit}

pub length-rows : (s : ℕ) (ps : List Pair) → length (rows s ps) ≡ 8 * length ps
length-rows s [] = refl
length-rows s (p ∷ ps) = let r = length-rows s ps in omega arith

-- the records that a chain of pairs cuts out of bytes are such as a trace can have
pub cut_fit : (xs : List ℕ) (a : ℕ) (ps : List Pair) (e : ℕ) → Chained a ps e → Sized ps → e ≤ length xs → length ps ≤ 1024 → Traceable (cut_records xs ps)
cut_fit xs a ps e h sized l few =
    let n = length-map ps (cut xs) in
    records_fit (map (cut xs) ps) (omega arith) (cuts_sized xs a ps e h sized l)

-- their file is the count, the rows of the pairs and the bytes that they cut
pub cut_file :
    (xs : List ℕ) (s a : ℕ) (ps : List Pair) (e : ℕ) →
    Chained a ps e →
    Sized ps →
    e ≤ length xs →
    s + a ≡ start (length ps) →
    file (cut_records xs ps) ≡ word (length ps) ++ (rows s ps ++ take (e - a) (drop a xs))
unfolding packed
cut_file xs s a ps e h sized l z =
    let parts = map (cut xs) ps in
    ap packed (laid_all parts (cuts_sized xs a ps e h sized l))
    ∙ ap (λ (k : ℕ). word k ++ (table (start k) parts ++ all parts)) (length-map ps (cut xs))
    ∙ ap (λ (bs : List ℕ). word (length ps) ++ (bs ++ all parts)) (ap (λ (k : ℕ). table k parts) (sym z) ∙ sym (rows_table xs s a ps e h l))
    ∙ ap (λ (bs : List ℕ). word (length ps) ++ (rows s ps ++ bs)) (parts_joined xs a ps e h)

module _ (ps : List Pair) (area : List ℕ) (h : Listed ps area) where
  chain : Chained 0 ps (length area)
  chain = chained 0 ps (length area) h.gapless

  pub listed_fit : Traceable (cut_records area ps)
  listed_fit = cut_fit area 0 ps (length area) chain h.sized (omega arith) h.few

  pub small : All (λ p. p.offset < 2 ^ 31) ps
  small k d l =
      let w = ends_within 0 ps (length area) k d chain l in
      let b = chained_below 0 ps (length area) chain h.sized in
      let f = h.few in
      omega arith

  pub listed_file : file (cut_records area ps) ≡ word (length ps) ++ (rows (start (length ps)) ps ++ area)
  listed_file =
      cut_file area (start (length ps)) 0 ps (length area) chain h.sized (omega arith) (omega arith)
      ∙ ap (λ (bs : List ℕ). word (length ps) ++ (rows (start (length ps)) ps ++ bs)) (take_all (length area - 0) area (omega arith))

  pub listed_long : length (file (cut_records area ps)) ≡ start (length ps) + length area
  listed_long =
      let a = ap length listed_file in
      let b = length-append (rows (start (length ps)) ps) area in
      let c = length-rows (start (length ps)) ps in
      omega arith

  -- what the three writes make
  pub three_writes :
      (before : List ℕ) →
      start (length ps) + length area ≤ length before →
      written (written (written before 0 (word (length ps))) 4 (rows (start (length ps)) ps)) (start (length ps)) area
      ≡ written before 0 (file (cut_records area ps))
  three_writes before room =
      let w = word (length ps) in
      let r = rows (start (length ps)) ps in
      let c = length-rows (start (length ps)) ps in
      let l = length-append w r in
      ap (λ (xs : List ℕ). written xs (start (length ps)) area) (written_more before w r 0 4 (omega arith) (omega arith))
      ∙ written_more before (w ++ r) area 0 (start (length ps)) (omega arith) (omega arith)
      ∙ ap (written before 0) (append_assoc w r area ∙ sym listed_file)

-- one turn of writing the table: a row behind the rows so far
pub row_written :
    (before b e v : List ℕ) (ps : List Pair) (i : ℕ) (d : Pair) →
    i < length ps →
    start (length ps) ≤ length before →
    b ≡ written before 4 (rows (start (length ps)) (take i ps)) →
    v ≡ word (start (length ps) + (get_or ps i d).offset) ++ word (get_or ps i d).length →
    e ≡ written b (4 + 8 * i) v →
    e ≡ written before 4 (rows (start (length ps)) (take (i + 1) ps))
row_written before b e v ps i d below room hb hv he =
    let s = start (length ps) in
    let row : Pair → List ℕ = λ q. word (s + q.offset) ++ word q.length in
    let r = rows s (take i ps) in
    let l = length-rows s (take i ps) in
    let t = length-take-le i ps (omega arith) in
    he
    ∙ ap (written b (4 + 8 * i)) hv
    ∙ ap (λ (xs : List ℕ). written xs (4 + 8 * i) (row (get_or ps i d))) hb
    ∙ written_more before r (row (get_or ps i d)) 4 (4 + 8 * i) (omega arith) (omega arith)
    ∙ ap (written before 4) (flat_map_more row [] (take i ps) (get_or ps i d) ∙ ap (rows s) (sym (take_more ps i d below)))
