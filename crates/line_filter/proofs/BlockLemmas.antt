-- What a block holds after a read.
use Rattle.std.proofs.Common.{◌≡◌, ◌+◌, ◌-◌, ◌≤◌, ℕ, List, ◌++◌, length, sym, ap, ◌∙◌, arith, take}
use Rattle.std.proofs.Common.{drop}
use Rattle.std.proofs.lemmas.List.{length-append, length-drop, length-take-le, take-append-le}
use Rattle.std.proofs.Math.Seq.{take-append-add, take-append_seam}
use borrow.Rule.Slice.PartMut.{post_of, put_mid}

-- what was read follows what was held
pub read_in : (filled count : ℕ) (bytes buf after : List ℕ) → filled ≤ length bytes
    → count ≤ length buf
    → take (filled + count) (take filled bytes ++ (buf ++ after))
    ≡ take filled bytes ++ take count buf
read_in filled count bytes buf after within few =
    ap (λ n. take (n + count) (take filled bytes ++ (buf ++ after)))
    (sym (length-take-le filled bytes within))
    ∙ take-append-add (take filled bytes) (buf ++ after) count
    ∙ ap (λ l. take filled bytes ++ l) (take-append-le count buf after few)

-- what was held stays at the front
pub held_in : (filled : ℕ) (bytes after : List ℕ) → filled ≤ length bytes
    → take filled (take filled bytes ++ after) ≡ take filled bytes
held_in filled bytes after within =
    ap (λ n. take n (take filled bytes ++ after)) (sym (length-take-le filled bytes within))
    ∙ take-append_seam (take filled bytes) after

-- a read changes no length
pub long_as_before : (filled : ℕ) (bytes buf : List ℕ) → filled ≤ length bytes
    → length buf ≡ length bytes - filled
    → length (put_mid filled (length bytes - filled) bytes buf) ≡ length bytes
long_as_before filled bytes buf within size =
    let count = length bytes - filled in
    let after = post_of filled count bytes in
    omega (
      arith,
      length-append (take filled bytes) (buf ++ after),
      length-append buf after,
      length-take-le filled bytes within,
      length-drop count (drop filled bytes),
      length-drop filled bytes,
      size,
    )
