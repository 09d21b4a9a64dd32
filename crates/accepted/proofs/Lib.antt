-- Each question's answer, from what stands at the root.
pub mod AtRoot
