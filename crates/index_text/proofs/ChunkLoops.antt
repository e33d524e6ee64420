-- Reading chunks one after the other, each by the one before it.
use Rattle.std.proofs.Common.{◌≡◌, ℕ, suc, ◌-◌, ◌+◌, ◌≤◌, ◌<◌, List, [], ◌∷◌, ◌++◌, Result, Ok, sym, ap, ◌∙◌, arith}
use Rattle.std.proofs.lemmas.List.{append-nil}
use Rattle.index_text.specs.declared.fault.ReadFault.{ReadFault}
use Rattle.index_text.specs.declared.row.ChunkMeta.{ChunkMeta}
use Rattle.index_text.specs.Gives.{◌>>=◌, with_front, Fails}
use Rattle.index_text.specs.Fields.{next_chunk, next_chunks}
use Rattle.index_text.proofs.Loops.{regroup, Fails-bind, Fails-same}

pub chunks_go_on : (front : List ChunkMeta) (count i : ℕ) (last : ChunkMeta) (bytes : List ℕ) (n : ChunkMeta) (after : List ℕ) (total : Result (List ChunkMeta × List ℕ) ReadFault) → i < count → next_chunk last bytes ≡ Ok (n, after)
    → with_front front (next_chunks (count - i) last bytes) ≡ total → with_front (front ++ n ∷ []) (next_chunks (count - (i + 1)) n after) ≡ total
unfolding next_chunks
chunks_go_on front count i last bytes n after total lt h so_far =
    let k : count - i ≡ suc (count - (i + 1)) = omega arith in
    let one : with_front front (next_chunks (count - i) last bytes) ≡ with_front (front ++ n ∷ []) (next_chunks (count - (i + 1)) n after) = rw (k, h) (regroup front n (next_chunks (count - (i + 1)) n after)) in
    sym one ∙ so_far

pub chunks_end : (e : ReadFault) (front : List ChunkMeta) (count i : ℕ) (last : ChunkMeta) (bytes : List ℕ) (total : Result (List ChunkMeta × List ℕ) ReadFault) → i < count → Fails e (next_chunk last bytes)
    → with_front front (next_chunks (count - i) last bytes) ≡ total → Fails e total
unfolding next_chunks
chunks_end e front count i last bytes total lt h so_far =
    let k : count - i ≡ suc (count - (i + 1)) = omega arith in
    Fails-same e _ total (ap (λ j. with_front front (next_chunks j last bytes)) (sym k) ∙ so_far)
    (Fails-bind e (next_chunks (suc (count - (i + 1))) last bytes) (λ x. Ok (front ++ x.0, x.1))
    (Fails-bind e (next_chunk last bytes) (λ c. next_chunks (count - (i + 1)) c.0 c.1 >>= λ cs. Ok (c.0 ∷ cs.0, cs.1)) h))

pub chunks_done : (front : List ChunkMeta) (count i : ℕ) (last : ChunkMeta) (bytes : List ℕ) (total : Result (List ChunkMeta × List ℕ) ReadFault) → count ≤ i
    → with_front front (next_chunks (count - i) last bytes) ≡ total → total ≡ Ok (front, bytes)
unfolding next_chunks
chunks_done front count i last bytes total le so_far =
    let k : count - i ≡ 0 = omega arith in
    let one : with_front front (next_chunks (count - i) last bytes) ≡ Ok (front, bytes) = rw k (ap (λ (ns : List ChunkMeta). Ok (ns, bytes)) (append-nil front)) in
    sym so_far ∙ one
