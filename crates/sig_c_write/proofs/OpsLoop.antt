-- Operations that are written one after another.
use Rattle.std.proofs.Common.{◌≡◌, ◌<◌, ◌+◌, ◌++◌, ◌∷◌, ℕ, suc, List, sym, ap, ◌∙◌, arith, length, length-append, drop, get_or, append_assoc, drop-cons}
use Rattle.sig_file.specs.Images.{ImageView}
use Rattle.sig_file.specs.declared.images.ImageOp.{ImageOp}
use Rattle.sig_c.specs.Written.{Scope}
use Rattle.sig_c_write.specs.declared.blocks.Reached.{Reached}
use Rattle.sig_c_write.specs.inner.Blocks.{next_after, next_bytes, ops_bytes}

module _ (image : ImageView) (scope : Scope) (notes : List (List ℕ)) (ops : List ImageOp) (i : ℕ) (op : ImageOp) (within : i < length ops) (is : op ≡ get_or ops i op) where
  split : drop i ops ≡ op ∷ drop (suc i) ops
  split = drop-cons ops i op within ∙ ap (λ (x : ImageOp). x ∷ drop (suc i) ops) (sym is)

  pub ops_step : (text more all : List ℕ) (reached next : Reached) → text ++ ops_bytes image scope notes reached (drop i ops) ≡ all → more ≡ text ++ next_bytes image scope notes reached op → next ≡ next_after reached op
      → more ++ ops_bytes image scope notes next (drop (i + 1) ops) ≡ all
  ops_step text more all reached next so_far one here =
      let place : i + 1 ≡ suc i = omega arith in
      ap (λ (k : ℕ). more ++ ops_bytes image scope notes next (drop k ops)) place
      ∙ ap (λ (m : List ℕ). m ++ ops_bytes image scope notes next (drop (suc i) ops)) one
      ∙ ap (λ (r : Reached). (text ++ next_bytes image scope notes reached op) ++ ops_bytes image scope notes r (drop (suc i) ops)) here
      ∙ append_assoc text (next_bytes image scope notes reached op) (ops_bytes image scope notes (next_after reached op) (drop (suc i) ops))
      ∙ ap (λ (l : List ImageOp). text ++ ops_bytes image scope notes reached l) (sym split)
      ∙ so_far

  pub ops_long : (most : ℕ) (text start all : List ℕ) (reached : Reached) → text ++ ops_bytes image scope notes reached (drop i ops) ≡ start ++ all → most < length text + length (next_bytes image scope notes reached op)
      → most < length start + length all
  ops_long most text start all reached so_far long =
      let rest = ops_bytes image scope notes (next_after reached op) (drop (suc i) ops) in
      let whole : text ++ (next_bytes image scope notes reached op ++ rest) ≡ start ++ all = ap (λ (l : List ImageOp). text ++ ops_bytes image scope notes reached l) (sym split) ∙ so_far in
      let a = length-append text (next_bytes image scope notes reached op ++ rest) in
      let b = length-append (next_bytes image scope notes reached op) rest in
      let c = length-append start all in
      let d = ap length whole in
      omega (arith, a, b, c, d, long)
