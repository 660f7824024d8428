pub mod OneTalk
pub mod RightTalk
