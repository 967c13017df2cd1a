-- Tokens as slices of a text.
use Rattle.std.specs.Prelude.{◌≡◌, ◌≢◌, ◌<◌, ◌≤◌, ◌∷◌, ◌++◌}
use Rattle.sig_lex.specs.Prelude.{ℕ, List, [], length, take, AllByRecursion}
use Rattle.sig_lex.specs.declared.token.Token.{Token}
use Rattle.sig_lex.specs.declared.token.TokenKind.TheVariants.{Last}
use Rattle.sig_lex.specs.inner.Places.{place_after}
use Rattle.sig_lex.specs.Tokens.{token_at}

-- The token is a slice of the text, with the place of its first byte.
pub record StandsIn (text : List ℕ) (t : Token) : Type 0 where
  pub ordered : t.start ≤ t.stop
  pub within : t.stop ≤ length text
  pub place : t.at ≡ place_after (take t.start text)

-- The tokens are slices of the text from the byte i on, one after another, each with the place of its
-- first byte.
abbrev pub InOrder : List ℕ → ℕ → List Token → Type 0
InOrder text i [] = i ≤ length text
InOrder text i (t ∷ tokens) = (i ≤ t.start) × (t.start ≤ t.stop) × (t.at ≡ place_after (take t.start text)) × InOrder text t.stop tokens

-- no token but the last is the end of the text, and that one stands after the last byte
abbrev pub EndsOnce : List ℕ → List Token → Type 0
EndsOnce text tokens = (others : List Token) × (tokens ≡ others ++ token_at text (length text) Last 0 ∷ []) × AllByRecursion (λ t. (t.kind ≢ Last) × (t.start < t.stop)) others
