-- What the image of a plan asks of the names of the kernel's signals and of the places in the program.
use Rattle.std.specs.Prelude.{◌<◌, ◌^◌, ◌&&◌}
use Rattle.sig_file.specs.Prelude.{Bool, IsTrue, List, length, All, Contains}
use Rattle.sig_base.specs.declared.signal.Signal.{Signal}
use Rattle.sig_kernel.specs.declared.kernel.Kernel.{Kernel}
use Rattle.sig_file.specs.Images.{is_name, is_name_length}
use Rattle.sig_file.specs.declared.images.ImageOp.{ImageOp}

-- a signal's name has the length and the bytes that an image asks for
pub record HasName (signal : Signal) : Type 0 where
  pub long : IsTrue (is_name_length (length signal.name))
  pub printable : IsTrue (is_name signal.name)

-- whether it has
abbrev pub is_spelled : Signal → Bool
is_spelled signal = is_name_length (length signal.name) && is_name signal.name

abbrev pub HasNames : Kernel → Type 0
HasNames kernel = (signal : Signal) → Contains kernel.signals signal → HasName signal

-- the place of an operation has 32 bits each for its line and its column
pub record HasPlace (op : ImageOp) : Type 0 where
  pub line : op.at.line < 2 ^ 32
  pub col : op.at.col < 2 ^ 32

abbrev pub HavePlaces : List ImageOp → Type 0
HavePlaces ops = All HasPlace ops
