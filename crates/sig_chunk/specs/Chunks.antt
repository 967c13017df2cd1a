-- Items that go through a link by chunks.
use Rattle.std.specs.Prelude.{◌≡◌, ◌≤◌, ◌<◌, ◌-◌, ◌++◌, ◌∷◌, ℕ, ℤ, List, [], length, take, drop, All}
use Rattle.sig_chunk.specs.declared.chunk.Chunk.{Chunk}

-- the items of a chunk, oldest first
abbrev pub items_of : Chunk → List ℤ
items_of chunk = take chunk.count chunk.items

-- those of chunks, one after another
abbrev pub items_in : List Chunk → List ℤ
items_in [] = []
items_in (chunk ∷ chunks) = items_of chunk ++ items_in chunks

-- no chunk has more items than this
abbrev pub AreSmall : ℕ → List Chunk → Type 0
AreSmall size chunks = All (λ chunk. chunk.count ≤ size) chunks

-- where items are left of a chunk of which so many were given, it is the last of these, and one was given at least
abbrev pub IsOpened : List Chunk → Chunk → ℕ → Type 0
IsOpened chunks opened given =
    given < opened.count → (1 ≤ given) × (drop (length chunks - 1) chunks ≡ opened ∷ [])
