-- The names that the step of an image is written with. They come from outside; what a step does rests on none of them.
use Rattle.std.specs.Prelude.{◌≡◌, ◌<◌, List, length, ⊤}
use Rattle.std.specs.List.{AllByRecursion}
use Rattle.sig_file.specs.Images.{ImageView}
use Rattle.sig_c.specs.SmallC.{Name, Ignored, TheVariable}

pub record Names : Type 0 where
  pub prefix : Name
  -- of the functions that give the inputs their values, and of those that take the values of the outputs
  pub inputs : List Name
  pub outputs : List Name
  -- of the variables of the signals, of whether each output comes, and of what each memory has next
  pub signals : List Name
  pub comes : List Name
  pub nexts : List Name
  -- of the fields of the state
  pub fields : List Name
  -- what is not read
  pub unread : List Ignored

-- a variable that is not read is that of a signal
abbrev pub IsOfImage : ImageView → Ignored → Type 0
IsOfImage image (TheVariable x) = x < length image.signals
IsOfImage image other = ⊤

-- there are as many of each as the image has
pub record AreNames (image : ImageView) (names : Names) : Type 0 where
  pub inputs : length names.inputs ≡ image.inputs
  pub outputs : length names.outputs ≡ image.outputs
  pub signals : length names.signals ≡ length image.signals
  pub comes : length names.comes ≡ image.outputs
  pub nexts : length names.nexts ≡ length image.memories
  pub fields : length names.fields ≡ length image.memories
  pub unread : AllByRecursion (IsOfImage image) names.unread
