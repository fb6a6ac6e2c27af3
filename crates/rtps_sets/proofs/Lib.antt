pub mod WordLaws
pub mod RingLaws
pub mod MirrorLaws
pub mod SpanLaws
pub mod MemberLaws
pub mod MarkLaws
