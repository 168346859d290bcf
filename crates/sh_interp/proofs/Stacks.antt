-- Frames are put on and taken off at the end of the code's list.
use Rattle.std.proofs.Common.{◌≡◌, List, [], ◌∷◌, ◌++◌, ap, ◌∙◌}
use Rattle.std.specs.Prelude.{map, reverse}
use Rattle.std.proofs.lemmas.List.{map_push, reverse-append}
use Rattle.sh_interp.specs.declared.frames.Frame.{Frame}
use Rattle.sh_interp.specs.Views.{frame_of, frames_of}

pub pushed : (fs : List Frame) (f : Frame) → frames_of (fs ++ f ∷ []) ≡ frame_of f ∷ frames_of fs
pushed fs f = ap reverse (map_push frame_of fs f) ∙ reverse-append (map frame_of fs) (frame_of f ∷ [])
