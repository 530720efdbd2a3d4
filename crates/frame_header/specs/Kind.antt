-- The number of a kind of frames, bits 0 to 2 of W0.
use Rattle.std.specs.Prelude.{ℕ}
use Rattle.lta_spec.specs.Frame.{accumulated, speed_frame}
use Rattle.frame_header.specs.declared.kind.FrameKind.{FrameKind}
use Rattle.frame_header.specs.declared.kind.FrameKind.TheVariants.{Accumulated, Speed}

abbrev pub kind_number : FrameKind → ℕ
kind_number Accumulated = accumulated
kind_number Speed = speed_frame
