pub mod MemberLaws
pub mod ShortLaws
pub mod AskLaws
pub mod AskedLaws
