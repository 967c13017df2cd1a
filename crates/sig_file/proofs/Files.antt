-- The whole of an image's file, both ways.
use Rattle.sig_file.proofs.Common.{◌≡◌, ℕ, ◌+◌, ◌<◌, ◌≤◌, ◌^◌, Bool, true, List, [], ◌∷◌, ◌++◌, length, Result, Ok, Err, refl, sym, ap, subst, ◌∙◌, arith, inl, inr, append-nil, append_assoc, bytes_eq, bytes_eq-Decides, flat_map, leb, leb-true, le-leb, NODES, SIGNALS, SigId, condition_bytes, image_bytes, magic, memory_bytes, node_bytes, number_bytes, op_bytes, signal_bytes, all_read, condition_at, counts_at, fields_of_file, file_at, memory_from, node_at, op_at, ops_at, signal_at, Each, ImageView, IsImage, IsMemory, IsNodeBehind, IsOperation, IsSignalBehind, Scope, is_condition_behind, ◌>>=◌, Counts, ImageMemory, ImageNode, ImageOp, ImageSignal, CONDITIONS, MEMORIES, OPERATIONS, same_bytes}
use Rattle.sig_file.proofs.Fields.{IsBytes, Reads, bind_err, bind_ok, shorter, if_reads, last_reads, number_reads, ok_is, reads_so, text_reads, then_reads, then_reads_if}
use Rattle.sig_file.proofs.Items.{condition_reads, memory_reads, node_reads, rule_reads, signal_reads}
use Rattle.sig_file.proofs.Operations.{IsSmall, op_reads}
use Rattle.sig_file.proofs.Rows.{several_reads}

-- ---- the counts

-- counts that are right
pub record AreCounts (c : Counts) : Type 0 where
  pub signals : c.signals ≤ SIGNALS
  pub inputs : c.inputs < 2 ^ 32
  pub interface : c.inputs + c.outputs ≤ c.signals
  pub conditions : c.conditions ≤ CONDITIONS
  pub memories : c.memories ≤ MEMORIES
  pub nodes : c.nodes ≤ NODES
  pub ops : c.ops ≤ OPERATIONS

abbrev counted : ℕ → ℕ → ℕ → ℕ → ℕ → ℕ → ℕ → Counts
counted signals inputs outputs conditions memories nodes ops = record { signals = signals; inputs = inputs; outputs = outputs; conditions = conditions; memories = memories; nodes = nodes; ops = ops }

abbrev pub head_bytes : Counts → List ℕ
head_bytes c = magic ++ (number_bytes c.signals ++ (number_bytes c.inputs ++ (number_bytes c.outputs ++ (number_bytes c.conditions ++ (number_bytes c.memories ++ (number_bytes c.nodes ++ number_bytes c.ops))))))

abbrev most : ℕ → ℕ → Bool
most limit n = leb n limit

abbrev with_inputs : ℕ → ℕ → ℕ → Bool
with_inputs signals inputs n = leb (inputs + n) signals

pub counts_reads : Reads counts_at AreCounts head_bytes
unfolding counts_at
counts_reads =
    reads_so _ _ _ _ _
    (λ c h. record {
      signals = leb-true _ _ h.1.0.1;
      inputs = h.1.1.0;
      interface = leb-true _ _ h.1.1.1.0.1;
      conditions = leb-true _ _ h.1.1.1.1.0.1;
      memories = leb-true _ _ h.1.1.1.1.1.0.1;
      nodes = leb-true _ _ h.1.1.1.1.1.1.0.1;
      ops = leb-true _ _ h.1.1.1.1.1.1.1.0.1;
    })
    (λ c h. (
      (refl, (bytes_eq-Decides magic magic).1 refl),
      (
        (omega (arith, h.signals), le-leb _ _ h.signals),
        (
          h.inputs,
          (
            (omega (arith, h.interface, h.signals), le-leb _ _ h.interface),
            (
              (omega (arith, h.conditions), le-leb _ _ h.conditions),
              (
                (omega (arith, h.memories), le-leb _ _ h.memories),
                (
                  (omega (arith, h.nodes), le-leb _ _ h.nodes),
                  ((omega (arith, h.ops), le-leb _ _ h.ops), refl),
                ),
              ),
            ),
          ),
        ),
      ),
    ))
    (λ c h. refl)
    (then_reads _ _ _ _ _ _ (λ c. magic) (if_reads _ _ _ (bytes_eq magic) (text_reads 8))
    (λ text. then_reads _ _ _ _ _ _ (λ c. c.signals) (rule_reads (most SIGNALS))
    (λ signals. then_reads _ _ _ _ _ _ (λ c. c.inputs) number_reads
    (λ inputs. then_reads _ _ _ _ _ _ (λ c. c.outputs) (rule_reads (with_inputs signals inputs))
    (λ outputs. then_reads _ _ _ _ _ _ (λ c. c.conditions) (rule_reads (most CONDITIONS))
    (λ conditions. then_reads _ _ _ _ _ _ (λ c. c.memories) (rule_reads (most MEMORIES))
    (λ memories. then_reads _ _ _ _ _ _ (λ c. c.nodes) (rule_reads (most NODES))
    (λ nodes. last_reads _ _ _ (counted signals inputs outputs conditions memories nodes) (λ c. c.ops) (λ ops. refl) (rule_reads (most OPERATIONS)))
    (λ nodes c h k. ap (λ (y : Counts). y.nodes) (sym k.1)))
    (λ memories c h k. ap (λ (y : Counts). y.memories) (sym k.1.1)))
    (λ conditions c h k. ap (λ (y : Counts). y.conditions) (sym k.1.1.1)))
    (λ outputs c h k. ap (λ (y : Counts). y.outputs) (sym k.1.1.1.1)))
    (λ inputs c h k. ap (λ (y : Counts). y.inputs) (sym k.1.1.1.1.1)))
    (λ signals c h k. ap (λ (y : Counts). y.signals) (sym k.1.1.1.1.1.1)))
    (λ text c h k. same_bytes magic text h.1))

-- ---- the parts

abbrev counts_of : ImageView → Counts
counts_of image = record {
  signals = length image.signals;
  inputs = image.inputs;
  outputs = image.outputs;
  conditions = length image.conditions;
  memories = length image.memories;
  nodes = length image.nodes;
  ops = length image.ops;
}

abbrev made_image : Counts → List ImageSignal → List SigId → List ImageMemory → List ImageNode → List ImageOp → ImageView
made_image c signals conditions memories nodes ops = record { signals = signals; inputs = c.inputs; outputs = c.outputs; conditions = conditions; memories = memories; nodes = nodes; ops = ops }

abbrev scope_with : Counts → List ImageSignal → List ImageMemory → Scope
scope_with c signals memories = record { signals = signals; inputs = c.inputs; memories = memories; nodes = c.nodes }

same_counts : (c : Counts) (a1 a2 a3 a4 a5 a6 a7 : ℕ) → a1 ≡ c.signals → a2 ≡ c.inputs → a3 ≡ c.outputs → a4 ≡ c.conditions → a5 ≡ c.memories → a6 ≡ c.nodes → a7 ≡ c.ops → counted a1 a2 a3 a4 a5 a6 a7 ≡ c
same_counts c a1 a2 a3 a4 a5 a6 a7 e1 e2 e3 e4 e5 e6 e7 = rw (e1, e2, e3, e4, e5, e6, e7) refl

-- so many items
abbrev AreMany : {A : Type 0} → (List A → A → Type 0) → ℕ → List A → Type 0
AreMany right n xs = (length xs ≡ n) × Each right [] xs

abbrev condition_rule : List ImageSignal → List SigId → SigId → Type 0
condition_rule signals before x = is_condition_behind signals before x.0 ≡ true

-- the parts behind these counts
abbrev HasParts : Counts → ImageView → Type 0
HasParts c x =
    AreMany (IsSignalBehind c.inputs) c.signals x.signals × (AreMany (condition_rule x.signals) c.conditions x.conditions × (AreMany (λ before. IsMemory) c.memories x.memories
    × (AreMany (IsNodeBehind c.conditions) c.nodes x.nodes × (AreMany (λ before. IsOperation (scope_with c x.signals x.memories)) c.ops x.ops × (made_image c x.signals x.conditions x.memories x.nodes x.ops ≡ x)))))

counts_are : (c : Counts) (x : ImageView) → HasParts c x → counts_of x ≡ c
counts_are c x h =
    let e : made_image c x.signals x.conditions x.memories x.nodes x.ops ≡ x = h.1.1.1.1.1 in
    same_counts c (length x.signals) x.inputs x.outputs (length x.conditions) (length x.memories) (length x.nodes) (length x.ops)
    h.0.0 (ap (λ (y : ImageView). y.inputs) (sym e)) (ap (λ (y : ImageView). y.outputs) (sym e)) h.1.0.0 h.1.1.0.0 h.1.1.1.0.0 h.1.1.1.1.0.0

is_image : (x : ImageView) → AreCounts (counts_of x) × HasParts (counts_of x) x → IsImage x
is_image x h = record {
  signals_few = h.0.signals;
  interface = h.0.interface;
  conditions_few = h.0.conditions;
  memories_few = h.0.memories;
  nodes_few = h.0.nodes;
  ops_few = h.0.ops;
  signals = h.1.0.1;
  conditions = h.1.1.0.1;
  memories = h.1.1.1.0.1;
  nodes = h.1.1.1.1.0.1;
  ops = h.1.1.1.1.1.0.1;
}

has_all : (x : ImageView) → IsImage x → AreCounts (counts_of x) × HasParts (counts_of x) x
has_all x h = (
  record {
    signals = h.signals_few;
    inputs = omega (arith, h.interface, h.signals_few);
    interface = h.interface;
    conditions = h.conditions_few;
    memories = h.memories_few;
    nodes = h.nodes_few;
    ops = h.ops_few;
  },
  ((refl, h.signals), ((refl, h.conditions), ((refl, h.memories), ((refl, h.nodes), ((refl, h.ops), refl))))),
)

regroup : (m a b c d e f g p q r s t : List ℕ) → (m ++ (a ++ (b ++ (c ++ (d ++ (e ++ (f ++ g))))))) ++ (p ++ (q ++ (r ++ (s ++ t)))) ≡ (((((m ++ ((((((a ++ b) ++ c) ++ d) ++ e) ++ f) ++ g)) ++ p) ++ q) ++ r) ++ s) ++ t
regroup m a b c d e f g p q r s t = simp append_assoc

file_bytes : (x : ImageView) → head_bytes (counts_of x) ++ (flat_map signal_bytes x.signals ++ (flat_map condition_bytes x.conditions ++ (flat_map memory_bytes x.memories ++ (flat_map node_bytes x.nodes ++ flat_map op_bytes x.ops)))) ≡ image_bytes x
unfolding image_bytes
file_bytes x = regroup magic (number_bytes (length x.signals)) (number_bytes x.inputs) (number_bytes x.outputs) (number_bytes (length x.conditions)) (number_bytes (length x.memories)) (number_bytes (length x.nodes)) (number_bytes (length x.ops))
    (flat_map signal_bytes x.signals) (flat_map condition_bytes x.conditions) (flat_map memory_bytes x.memories) (flat_map node_bytes x.nodes) (flat_map op_bytes x.ops)

small : (c : Counts) (signals : List ImageSignal) (memories : List ImageMemory) → AreCounts c → length signals ≡ c.signals → length memories ≡ c.memories → IsSmall (scope_with c signals memories)
small c signals memories h s m = record {
  signals = omega (arith, s, h.signals);
  inputs = omega (arith, s, h.interface);
  memories = omega (arith, m, h.memories);
  nodes = omega (arith, h.nodes);
}

ops_read : (c : Counts) (signals : List ImageSignal) (memories : List ImageMemory) → IsSmall (scope_with c signals memories)
    → Reads (ops_at (scope_with c signals memories) c.ops) (AreMany (λ before. IsOperation (scope_with c signals memories)) c.ops) (flat_map op_bytes)
unfolding ops_at
ops_read c signals memories s =
    several_reads (λ before. op_at (scope_with c signals memories)) (λ before. IsOperation (scope_with c signals memories)) op_bytes c.ops (λ before k. op_reads (scope_with c signals memories) s) c.ops (omega arith)

-- the fields of an image
pub file_reads : Reads fields_of_file IsImage image_bytes
unfolding fields_of_file
file_reads =
    reads_so _ _ _ _ _ is_image has_all (λ x h. file_bytes x)
    (then_reads_if _ _ _ _ _ _ counts_of counts_reads
    (λ c h. then_reads_if _ _ _ _ _ _ (λ x. x.signals) (several_reads (signal_at c.inputs) (IsSignalBehind c.inputs) signal_bytes c.signals (λ before k. signal_reads c.inputs before) c.signals (omega arith))
    (λ signals s. then_reads_if _ _ _ _ _ _ (λ x. x.conditions) (several_reads (condition_at signals) (condition_rule signals) condition_bytes c.conditions (λ before k. condition_reads signals (omega (arith, s.0, h.signals)) before) c.conditions (omega arith))
    (λ conditions n. then_reads_if _ _ _ _ _ _ (λ x. x.memories) (several_reads (λ before. memory_from) (λ before. IsMemory) memory_bytes c.memories (λ before k. memory_reads) c.memories (omega arith))
    (λ memories m. then_reads_if _ _ _ _ _ _ (λ x. x.nodes) (several_reads (node_at c.conditions) (IsNodeBehind c.conditions) node_bytes NODES (λ before k. node_reads c.conditions h.conditions before k) c.nodes h.nodes)
    (λ nodes d. last_reads _ _ _ (made_image c signals conditions memories nodes) (λ x. x.ops) (λ ops. refl) (ops_read c signals memories (small c signals memories h s.0 m.0)))
    (λ nodes x k l. ap (λ (y : ImageView). y.nodes) (sym l.1)))
    (λ memories x k l. ap (λ (y : ImageView). y.memories) (sym l.1.1)))
    (λ conditions x k l. ap (λ (y : ImageView). y.conditions) (sym l.1.1.1)))
    (λ signals x k l. ap (λ (y : ImageView). y.signals) (sym l.1.1.1.1)))
    (λ c x k l. counts_are c x l))

-- ---- the whole file

all_ok : {A : Type 0} (x y : A) (rest : List ℕ) → all_read x rest ≡ Ok y → (x ≡ y) × (rest ≡ [])
all_ok x y [] e = (ok_is x y e, refl)
all_ok x y (byte ∷ rest) e = absurd cc

all_short : {A : Type 0} (x : A) (rest : List ℕ) (left : ℕ) → all_read x rest ≡ Err left → left ≤ length rest
all_short x [] left e = absurd cc
all_short x (byte ∷ rest) left e = let same : length (byte ∷ rest) ≡ left = cc in omega arith

-- what is read is an image, and these are its bytes
pub file_takes : (bytes : List ℕ) (image : ImageView) → IsBytes bytes → file_at bytes ≡ Ok image → IsImage image × (image_bytes image ≡ bytes)
unfolding file_at
file_takes bytes image fits e =
    let a = bind_ok (fields_of_file bytes) (λ x. all_read x.0 x.1) image e in
    let w = all_ok a.0.0 image a.0.1 a.2 in
    let t = file_reads.takes bytes a.0.0 a.0.1 fits a.1 in
    let whole : bytes ≡ image_bytes a.0.0 = t.0.parts ∙ ap (λ (r : List ℕ). image_bytes a.0.0 ++ r) w.1 ∙ append-nil (image_bytes a.0.0) in
    subst (λ (y : ImageView). IsImage y × (image_bytes y ≡ bytes)) w.0 (t.1, sym whole)

-- the bytes of an image are read as this
pub file_again : (image : ImageView) → IsImage image → file_at (image_bytes image) ≡ Ok image
unfolding file_at
file_again image h =
    let one : fields_of_file (image_bytes image) ≡ Ok (image, []) = ap fields_of_file (sym (append-nil (image_bytes image))) ∙ file_reads.again image [] h in
    ap (λ (r : Result (ImageView × List ℕ) ℕ). r >>= λ x. all_read x.0 x.1) one

-- where a field is broken, no more bytes are left than there are
pub file_short : (bytes : List ℕ) (left : ℕ) → IsBytes bytes → file_at bytes ≡ Err left → left ≤ length bytes
unfolding file_at
file_short bytes left fits e =
    elim (bind_err (fields_of_file bytes) (λ x. all_read x.0 x.1) left e) [
      | inl h ↦ file_reads.short bytes left fits h
      | inr h ↦ (let t = file_reads.takes bytes h.0.0 h.0.1 fits h.1 in shorter bytes (image_bytes h.0.0) h.0.1 left t.0 (all_short h.0.0 h.0.1 left h.2))
    ]
