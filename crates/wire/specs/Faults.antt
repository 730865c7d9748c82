-- The faults, each by its cause, the stream and the place that it names; a cause has a number, and an error code of RFC 9113, section 7.
use Rattle.std.specs.Prelude.{ℕ}
use Rattle.wire.specs.declared.faults.Cause.{Cause}
use Rattle.wire.specs.declared.faults.Cause.TheVariants.{Ended, NotWhole, FrameSize, Protocol, FlowControl, NoIncrement, WindowOverflow, UnreadablePriority, BadId, Full, NotOpen, EndOffered, QueueOverflow, NoneReady, NotGranted, TooLong, NoSpace, GrantsUsedUp}
use Rattle.wire.specs.declared.faults.ErrorCode.{ErrorCode}
use Rattle.wire.specs.declared.faults.ErrorCode.TheVariants.{NoError, ProtocolError, FlowControlError, FrameSizeError}
use Rattle.wire.specs.declared.faults.Fault.{Fault}

abbrev pub cause_number : Cause → ℕ
cause_number Ended = 1
cause_number NotWhole = 2
cause_number FrameSize = 3
cause_number Protocol = 4
cause_number FlowControl = 5
cause_number NoIncrement = 6
cause_number WindowOverflow = 7
cause_number UnreadablePriority = 8
cause_number BadId = 9
cause_number Full = 10
cause_number NotOpen = 11
cause_number EndOffered = 12
cause_number QueueOverflow = 13
cause_number NoneReady = 14
cause_number NotGranted = 15
cause_number TooLong = 16
cause_number NoSpace = 17
cause_number GrantsUsedUp = 18

-- the error code of what breaks the RFC's rules; any other refusal has none
abbrev pub code_of : Cause → ErrorCode
code_of Ended = NoError
code_of NotWhole = NoError
code_of FrameSize = FrameSizeError
code_of Protocol = ProtocolError
code_of FlowControl = FlowControlError
code_of NoIncrement = ProtocolError
code_of WindowOverflow = FlowControlError
code_of UnreadablePriority = NoError
code_of BadId = NoError
code_of Full = NoError
code_of NotOpen = NoError
code_of EndOffered = NoError
code_of QueueOverflow = NoError
code_of NoneReady = NoError
code_of NotGranted = NoError
code_of TooLong = NoError
code_of NoSpace = NoError
code_of GrantsUsedUp = NoError

abbrev pub error_number : ErrorCode → ℕ
error_number NoError = 0
error_number ProtocolError = 1
error_number FlowControlError = 3
error_number FrameSizeError = 6

-- a fault by its cause, the stream and the place
abbrev pub fault : Cause → ℕ → ℕ → Fault
fault cause stream place = record { cause = cause; stream = stream; place = place }

-- the octets are not one whole frame
abbrev pub not_whole : Fault
not_whole = fault NotWhole 0 0

-- a length that the frame's type does not allow: FRAME_SIZE_ERROR, and the connection ends
abbrev pub frame_size : Fault
frame_size = fault FrameSize 0 0

-- what the protocol forbids, at a place of the frame: PROTOCOL_ERROR, and the connection ends
abbrev pub protocol : ℕ → Fault
protocol at = fault Protocol 0 at

-- an unreadable priority value, which begins at octet 13 of its frame
abbrev pub unreadable_priority : ℕ → Fault
unreadable_priority target = fault UnreadablePriority target 13
